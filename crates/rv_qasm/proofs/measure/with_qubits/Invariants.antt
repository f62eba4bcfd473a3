use Rattle.std.proofs.Common.{◌≡◌}
use Rattle.std.specs.List.{fold, range_with_len}
use Rattle.rv_qasm.specs.Rules.{with_qubit}
use Rattle.rv_qasm.proofs.measure.with_qubits.Given as goal

abbrev pub invariant-loop-i : goal.invariant-loop-i
invariant-loop-i l = l.set ≡ fold with_qubit l.fn.set (range_with_len l.first l.i)
