use Rattle.std.proofs.Common.{◌≡◌, ◌≤◌, ◌+◌, drop}
use Rattle.std.specs.List.{sum_by}
use Rattle.rv_gate.specs.declared.circuit.TheConstants.{MOST_GATES}
use Rattle.rv_compute.specs.Bounds.{node_bound}
use Rattle.rv_compute.proofs.circuit.gates_fit.Given as goal

abbrev pub invariant-loop-node : goal.invariant-loop-node
invariant-loop-node l =
    (l.gates + sum_by node_bound (drop l.node-index l.node-items) ≡ sum_by node_bound l.node-items)
    × (l.gates ≤ MOST_GATES)
