use Rattle.std.proofs.Common.{◌≡◌, ℕ, ◌^◌, ◌++◌, reverse, refl, ap, ◌∙◌, arith}
use Rattle.std.proofs.lemmas.Nat.{one_shl}
use Rattle.rv_perm.specs.Perm.{Table}
use Rattle.rv_tbs.specs.Synthesis.{Sides, after, is_inward, both_gates}
use Rattle.rv_tbs.proofs.inside.BothSides.{after_more}
use Rattle.rv_tbs.proofs.both.both_gates.Goals as goal

pub loop-k-init : goal.loop-k-init
unfolding after
loop-k-init c = (ap (λ (t : Table). t.lines) c.in_ok-table.ensures, rw (c.in_ok-table.ensures, c.new-ins.ensures.items, c.new-outs.ensures.items) refl)

pub loop-k-preserved : goal.loop-k-preserved
loop-k-preserved c = (
  c.in_ok-both_step.ensures.lines ∙ c.loop-k.invariant.0,
  let found = c.in_ok-both_step.ensures.found in cc (after_more is_inward c.args.perm.now.lines c.args.perm.now.images c.loop-k.k),
)

pub returns : goal.returns
unfolding both_gates
returns c =
    let n : ℕ = c.args.perm.now.lines in
    let places = one_shl c.lines.result 32 (omega (arith, c.lines.ensures.value, c.lines.ensures.valid)) in
    let same : 2 ^ c.lines.result ≡ 2 ^ n = ap (λ m. 2 ^ m) c.lines.ensures.value in
    let all : c.loop-k.k ≡ 2 ^ n = omega arith in
    c.in_ok-extend_from_slice.ensures.items
    ∙ ap (λ l. c.loop-k.ins.items ++ l) (c.deref.ensures.value ∙ c.reverse.ensures.items)
    ∙ ap (λ (s : Sides). s.ins ++ reverse s.outs) (c.loop-k.invariant.1 ∙ ap (after is_inward n c.args.perm.now.images) all)
