use Rattle.std.proofs.Common.{◌≡◌, ◌≤◌, length, take}
use Rattle.rv_qasm.specs.Back.{classical_gates}
use Rattle.rv_qasm.proofs.back.add_gates.Given as goal

abbrev pub invariant-loop-op : goal.invariant-loop-op
invariant-loop-op l = record {
  so_far : l.circuit ≡ record l.fn.circuit { gates = classical_gates (take l.op-index l.ops) };
  few : length l.circuit.gates ≤ l.op-index;
}
