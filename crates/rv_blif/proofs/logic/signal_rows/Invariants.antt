use Rattle.std.proofs.Common.{◌≡◌, ◌≤◌, ◌-◌, length, take}
use Rattle.rv_blif.proofs.logic.signal_rows.Given as goal

abbrev pub invariant-loop-rows : goal.invariant-loop-rows
invariant-loop-rows l = record {
  some : length l.inputs ≤ length l.rows.items;
  few : length l.rows.items ≤ l.count;
  inputs : take (length l.inputs) l.rows.items ≡ l.inputs;
}

abbrev pub decreases-loop-rows : goal.decreases-loop-rows
decreases-loop-rows l = l.count - length l.rows.items
