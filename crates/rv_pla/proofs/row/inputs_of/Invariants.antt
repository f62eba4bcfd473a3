use Rattle.std.proofs.Common.{◌≡◌, ◌≤◌, length, drop}
use Rattle.std.specs.List.{list_all}
use Rattle.rv_pla.specs.Row.{is_input}
use Rattle.rv_pla.proofs.Rows.{AreFrom}
use Rattle.rv_pla.proofs.row.inputs_of.Given as goal

abbrev pub invariant-loop-i : goal.invariant-loop-i
invariant-loop-i l = record {
  at : l.i ≤ length l.row;
  care : AreFrom 48 49 l.row l.i l.care;
  want : AreFrom 49 49 l.row l.i l.want;
  all : l.are_inputs ≡ list_all is_input (drop l.i l.row);
}

abbrev pub decreases-loop-i : goal.decreases-loop-i
decreases-loop-i l = l.i
