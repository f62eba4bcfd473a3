use Rattle.std.proofs.Common.{◌≡◌, take, true}
use Rattle.std.specs.List.{list_all}
use Rattle.rv_qasm.specs.Rules.{agrees_with}
use Rattle.rv_qasm.specs.inside.Views.{named_qubits}
use Rattle.rv_qasm.proofs.apply.sizes_agree.Given as goal

abbrev pub invariant-loop-range : goal.invariant-loop-range
invariant-loop-range l = list_all (λ p. agrees_with l.count (named_qubits p)) (take l.range-index l.operands) ≡ true
