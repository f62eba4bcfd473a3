use Rattle.std.proofs.Common.{◌≡◌, ◌-◌, map}
use Rattle.std.specs.List.{range_with_len}
use Rattle.rv_qasm.specs.Rules.{each_read, ops_read, qubits_at, repeats}
use Rattle.rv_qasm.specs.inside.Views.{named_qubits}
use Rattle.rv_qasm.proofs.state.State.each_read.Given as goal

abbrev pub invariant-loop-j : goal.invariant-loop-j
invariant-loop-j l = record {
  so_far : each_read l.name l.fn.self (map named_qubits l.operands)
      ≡ ops_read l.name l.self (map (qubits_at (map named_qubits l.operands)) (range_with_len l.j (repeats (map named_qubits l.operands) - l.j)));
  same : l.self.quantum ≡ l.fn.self.quantum;
}
