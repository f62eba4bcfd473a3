use Rattle.std.proofs.Common.{◌≡◌, drop, map}
use Rattle.rv_qasm.specs.Rules.{repeats}
use Rattle.rv_qasm.specs.inside.Views.{named_qubits}
use Rattle.rv_qasm.proofs.apply.repeats.Given as goal

abbrev pub invariant-loop-range : goal.invariant-loop-range
invariant-loop-range l = repeats (map named_qubits l.operands) ≡ repeats (map named_qubits (drop l.range-index l.operands))
