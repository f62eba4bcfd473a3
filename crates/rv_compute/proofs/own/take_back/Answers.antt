use Rattle.std.proofs.Common.{◌≡◌, ◌-◌, ℕ, List, length, ap, subst, arith}
use Rattle.rv_blif.specs.Logic.{Node}
use Rattle.rv_compute.specs.inside.Own.{AddsNode}
use Rattle.rv_compute.proofs.inside.Owning.{back_more, back_all}
use Rattle.rv_compute.proofs.own.take_back.Goals as goal

pub loop-i-preserved : goal.loop-i-preserved
loop-i-preserved c =
    let logic = c.args.logic.now in
    let i = c.loop-i.i in
    let old = c.loop-i.gates.items in
    let new = c.toggle.new.gates.items in
    let size : length c.nodes-nodes.result.now ≡ length logic.nodes =
    ap (λ (l : List Node). length l) c.nodes-nodes.ensures.value in
    let below = c.loop-i-test.true in
    back_more logic i old new c.nodes-nodes.ensures.valid (omega arith) c.loop-i.invariant
    (subst (λ (n : ℕ). AddsNode logic (n - 1 - i) old new) size c.in_ok-toggle.ensures)

pub returns : goal.returns
returns c =
    let logic = c.args.logic.now in
    let size : length c.nodes-nodes.result.now ≡ length logic.nodes =
    ap (λ (l : List Node). length l) c.nodes-nodes.ensures.value in
    let all = c.loop-i-test.false in
    back_all logic c.loop-i.i c.loop-i.gates.items (omega arith) c.loop-i.invariant
