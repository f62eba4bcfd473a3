use Rattle.std.proofs.Common.{◌≤◌, IfSome, drop, length}
use Rattle.rv_qasm.specs.Registers.{operands_in}
use Rattle.rv_qasm.specs.Rules.{barrier_read}
use Rattle.rv_qasm.specs.inside.Parts.{parts_at}
use Rattle.rv_qasm.proofs.inside.OperandLaws.{LooksOn, left_from}
use Rattle.rv_qasm.proofs.state.State.barrier_read.Given as goal

abbrev pub invariant-loop-next : goal.invariant-loop-next
invariant-loop-next l = record {
  so_far : LooksOn l.self l.found (operands_in (parts_at l.next l.tokens)) (barrier_read l.self (drop 1 l.tokens));
  within : IfSome l.next (λ at. at ≤ length l.tokens);
}

abbrev pub decreases-loop-next : goal.decreases-loop-next
decreases-loop-next l = left_from l.next (length l.tokens)
