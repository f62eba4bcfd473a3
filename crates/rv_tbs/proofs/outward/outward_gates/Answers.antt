use Rattle.std.proofs.Common.{◌≡◌, ℕ, ◌^◌, [], refl, reverse, ap, ◌∙◌, arith}
use Rattle.std.proofs.lemmas.Nat.{one_shl}
use Rattle.rv_perm.specs.Perm.{Table}
use Rattle.rv_tbs.specs.Synthesis.{Sides, after, never, out_gates}
use Rattle.rv_tbs.proofs.inside.BothSides.{after_more, step_out}
use Rattle.rv_tbs.proofs.outward.outward_gates.Goals as goal

pub loop-k-init : goal.loop-k-init
unfolding after
loop-k-init c = (ap (λ (t : Table). t.lines) c.in_ok-table.ensures, rw (c.in_ok-table.ensures, c.new-gates.ensures.items) refl)

pub loop-k-preserved : goal.loop-k-preserved
loop-k-preserved c = (
  c.in_ok-outward_step.ensures.lines ∙ c.loop-k.invariant.0,
  let found = step_out never c.loop-k.table.lines c.loop-k.k _ _ [] _ _ _ refl refl c.in_ok-outward_step.ensures.images c.in_ok-outward_step.ensures.gates in
      cc (after_more never c.args.perm.now.lines c.args.perm.now.images c.loop-k.k),
)

pub returns : goal.returns
unfolding out_gates
returns c =
    let n : ℕ = c.args.perm.now.lines in
    let places = one_shl c.lines.result 32 (omega (arith, c.lines.ensures.value, c.lines.ensures.valid)) in
    let same : 2 ^ c.lines.result ≡ 2 ^ n = ap (λ m. 2 ^ m) c.lines.ensures.value in
    let all : c.loop-k.k ≡ 2 ^ n = omega arith in
    c.reverse.ensures.items ∙ ap (λ (s : Sides). reverse s.outs) (c.loop-k.invariant.1 ∙ ap (after never n c.args.perm.now.images) all)
