use Rattle.std.proofs.Common.{◌≡◌, ℕ, ◌<◌, length, get_or}
use Rattle.rv_many.proofs.Columns.{blank}
use Rattle.rv_blif.proofs.evaluate.node_row.Given as goal

abbrev pub invariant-loop-i : goal.invariant-loop-i
invariant-loop-i l = record {
  count : length l.operand_rows ≡ length l.operands;
  each : (k : ℕ) → k < l.i → get_or l.operand_rows k blank ≡ get_or l.rows (get_or l.operands k 0) blank;
}
