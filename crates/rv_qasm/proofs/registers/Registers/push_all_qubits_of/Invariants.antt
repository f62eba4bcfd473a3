use Rattle.std.proofs.Common.{◌≡◌, All, drop, length, map}
use Rattle.rv_qasm.specs.Registers.{all_qubits_of, size_of_all}
use Rattle.rv_qasm.specs.inside.Views.{IsPart, named, named_qubits}
use Rattle.rv_qasm.proofs.inside.GateLaws.{prepended}
use Rattle.rv_qasm.proofs.registers.Registers.push_all_qubits_of.Given as goal

abbrev pub invariant-loop-operand : goal.invariant-loop-operand
invariant-loop-operand l = record {
  so_far : all_qubits_of l.self (map named l.operands) ≡ prepended (map named_qubits l.ranges.items) (all_qubits_of l.self (map named (drop l.operand-index l.operands)));
  part : All (IsPart (size_of_all l.self)) l.ranges.items;
  len : length l.ranges.items ≡ l.operand-index;
}
