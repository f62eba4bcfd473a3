use Rattle.std.proofs.Common.{◌≡◌, ◌+◌, ◌<◌, ℕ, List, length, ap, subst, arith}
use Rattle.rv_blif.specs.Logic.{Output}
use Rattle.rv_compute.specs.inside.Own.{Own, word_bound}
use Rattle.rv_compute.proofs.inside.Owning.{own_copy}
use Rattle.rv_compute.proofs.own.add_outputs.Goals as goal

pub loop-p-preserved : goal.loop-p-preserved
loop-p-preserved c =
    let logic = c.args.logic.now in
    let nodes : ℕ = length logic.nodes in
    let p = c.loop-p.p in
    let words : ℕ = word_bound logic nodes in
    let one : words + p + 1 ≡ words + (p + 1) = omega arith in
    let size = ap (λ (l : List Output). length l) c.outputs-p-end.ensures.value in
    let below = c.loop-p-test.true in
    let here : p < length logic.outputs = omega arith in
    subst (λ (n : ℕ). Own logic (p + 1) nodes n c.copy.new.gates.items) one
    (own_copy logic p (words + p) c.loop-p.gates.items c.copy.new.gates.items c.outputs-p-end.ensures.valid here
    c.loop-p.invariant c.in_ok-copy.ensures)
