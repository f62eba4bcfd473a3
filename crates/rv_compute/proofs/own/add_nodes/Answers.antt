use Rattle.std.proofs.Common.{◌+◌, List, length, ap, sym, subst, arith}
use Rattle.rv_gate.specs.declared.gate.Shape.{Shape}
use Rattle.rv_blif.specs.Logic.{Node}
use Rattle.rv_compute.specs.inside.Own.{Own, word_bound}
use Rattle.rv_compute.proofs.inside.Owning.{own_first, own_add}
use Rattle.rv_compute.proofs.own.add_nodes.Goals as goal

pub loop-k-init : goal.loop-k-init
loop-k-init c =
    let logic = c.args.logic.now in
    subst (λ (g : List Shape). Own logic 0 0 (word_bound logic 0) g) (sym c.new-gates.ensures.items) (own_first logic)

pub loop-k-preserved : goal.loop-k-preserved
loop-k-preserved c =
    let logic = c.args.logic.now in
    let k = c.loop-k.k in
    let size = ap (λ (l : List Node). length l) c.nodes-k-end.ensures.value in
    let below = c.loop-k-test.true in
    own_add logic 0 k (word_bound logic k) (word_bound logic (k + 1)) c.loop-k.gates.items c.toggle.new.gates.items
    c.nodes-k-end.ensures.valid (omega arith) (omega arith) (omega arith) c.loop-k.invariant c.in_ok-toggle.ensures
