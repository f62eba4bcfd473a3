use Rattle.std.proofs.Common.{◌≡◌, ◌≤◌, IfSome, drop, length, map}
use Rattle.rv_qasm.specs.Registers.{operands_in}
use Rattle.rv_qasm.specs.Rules.{gate_operands}
use Rattle.rv_qasm.specs.inside.Parts.{parts_at}
use Rattle.rv_qasm.specs.inside.Views.{named}
use Rattle.rv_qasm.proofs.inside.OperandLaws.{exactly, left_from}
use Rattle.rv_qasm.proofs.measure.push_operands.Given as goal

abbrev pub invariant-loop-next : goal.invariant-loop-next
invariant-loop-next l = record {
  so_far : gate_operands l.size (drop 1 l.tokens) ≡ exactly l.size (map named l.operands.items) l.is_more (operands_in (parts_at l.next l.tokens));
  within : IfSome l.next (λ at. at ≤ length l.tokens);
}

abbrev pub decreases-loop-next : goal.decreases-loop-next
decreases-loop-next l = left_from l.next (length l.tokens)
