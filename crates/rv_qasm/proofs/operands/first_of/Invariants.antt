use Rattle.std.proofs.Common.{◌≡◌, ◌≤◌, ◌+◌, ◌-◌, drop, length}
use Rattle.std.specs.List.{position_or_len}
use Rattle.rv_qasm.specs.Registers.{is_token}
use Rattle.rv_qasm.proofs.operands.first_of.Given as goal

abbrev pub invariant-loop-at : goal.invariant-loop-at
invariant-loop-at l = record {
  within : l.at ≤ length l.tokens;
  first : l.fn.from + position_or_len (is_token l.mark) (drop l.fn.from l.tokens) ≡ l.at + position_or_len (is_token l.mark) (drop l.at l.tokens);
}

abbrev pub decreases-loop-at : goal.decreases-loop-at
decreases-loop-at l = length l.tokens - l.at
