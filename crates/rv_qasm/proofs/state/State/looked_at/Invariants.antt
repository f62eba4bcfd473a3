use Rattle.std.proofs.Common.{◌≡◌, drop, map}
use Rattle.rv_qasm.specs.Rules.{looked_at}
use Rattle.rv_qasm.specs.inside.Views.{named}
use Rattle.rv_qasm.proofs.state.State.looked_at.Given as goal

abbrev pub invariant-loop-operand : goal.invariant-loop-operand
invariant-loop-operand l = looked_at l.self (map named l.operands) ≡ looked_at l.self (map named (drop l.operand-index l.operands))
