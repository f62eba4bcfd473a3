use Rattle.std.proofs.Common.{◌≡◌, false, take}
use Rattle.std.specs.List.{list_any}
use Rattle.rv_qasm.specs.Rules.{is_measured}
use Rattle.rv_qasm.proofs.state.State.is_any_measured.Given as goal

abbrev pub invariant-loop-qubit : goal.invariant-loop-qubit
invariant-loop-qubit l = list_any (is_measured l.self) (take l.qubit-index l.qubits) ≡ false
