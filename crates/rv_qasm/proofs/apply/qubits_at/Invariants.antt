use Rattle.std.proofs.Common.{◌≡◌, ◌<◌, All, length, map, take}
use Rattle.rv_qasm.specs.Rules.{qubits_at}
use Rattle.rv_qasm.specs.inside.Views.{named_qubits}
use Rattle.rv_qasm.proofs.apply.qubits_at.Given as goal

abbrev pub invariant-loop-range : goal.invariant-loop-range
invariant-loop-range l = record {
  so_far : l.all.items ≡ qubits_at (map named_qubits (take l.range-index l.operands)) l.j;
  within : All (λ q. q < l.count) l.all.items;
  len : length l.all.items ≡ l.range-index;
}
