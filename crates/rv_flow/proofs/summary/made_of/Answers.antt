use Rattle.std.proofs.Common.{ap, arith, ◌∙◌}
use Rattle.rv_cost.specs.NetCost.{net_cost}
use Rattle.rv_gate.specs.Circuit.{Cascade}
use Rattle.rv_net.specs.Network.{expanded}
use Rattle.rv_flow.proofs.inside.Bounds.{operations-few}
use Rattle.rv_flow.proofs.summary.made_of.Goals as goal

pub cost_of-requires-clause-few : goal.cost_of-requires-clause-few
cost_of-requires-clause-few c =
    let d = c.in_ok-decomposed in
    omega (arith, operations-few d.decomposed.circuit.gates d.ensures.plain, d.ensures.count, c.requires.gates)

pub returns-in-Ok-clause-operations : goal.returns-in-Ok-clause-operations
returns-in-Ok-clause-operations c =
    let d = c.in_ok-decomposed in
    omega (arith, c.in-Ok.ensures.operations, operations-few d.decomposed.circuit.gates d.ensures.plain, d.ensures.count, c.requires.gates)

pub returns-in-Ok-clause-cost : goal.returns-in-Ok-clause-cost
returns-in-Ok-clause-cost c =
    c.in-Ok.ensures.cost ∙ ap (λ (it : Cascade). net_cost (expanded it)) c.in_ok-decomposed.ensures.circuit
