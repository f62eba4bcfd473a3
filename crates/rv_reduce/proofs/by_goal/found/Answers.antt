use Rattle.std.proofs.Common.{◌≡◌, ◌∙◌, ◌≤◌, ℕ, List, length, sym, ap, subst, arith}
use Rattle.rv_net.specs.Op.{Network}
use Rattle.rv_net.specs.declared.op.Op.{Op}
use Rattle.rv_net.specs.declared.net.TheConstants.{MOST_OPS}
use Rattle.rv_reduce.specs.ByGoal.{KeepsAmplitudes}
use Rattle.rv_reduce.specs.StandsFor.{StandsFor}
use Rattle.rv_reduce.proofs.ByGoal.{standing-keeps}
use Rattle.rv_reduce.proofs.by_goal.found.Goals as goal

pub returns-then-len-le-MOST_OPS : goal.returns-then-len-le-MOST_OPS
returns-then-len-le-MOST_OPS c =
    let net : Network = c.args.net.now in
    let ops : List Op = c.in_ok-ops.ops.items in
    let one : StandsFor c.lines.result c.ops.result.now ops = c.in_ok-ops.ensures in
    let two : StandsFor net.lines c.ops.result.now ops = subst (λ (n : ℕ). StandsFor n c.ops.result.now ops) c.lines.ensures.value one in
    let same : StandsFor net.lines net.ops ops = subst (λ (l : List Op). StandsFor net.lines l ops) c.ops.ensures two in
    let few : length ops ≤ MOST_OPS = omega (arith, c.if-len-le-MOST_OPS.true, c.len.ensures) in
    let network : ℕ → Network = λ n. record { lines = n; ops = ops } in
    let is : c.of_ops.result ≡ network net.lines = c.of_ops.ensures ∙ ap network c.lines-then-len-le-MOST_OPS.ensures.value in
    subst (λ (n : Network). KeepsAmplitudes net n) (sym is) (standing-keeps net ops c.recall_invariant.ensures few same)
