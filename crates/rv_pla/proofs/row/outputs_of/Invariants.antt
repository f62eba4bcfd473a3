use Rattle.std.proofs.Common.{◌≡◌, ◌≤◌, length, drop}
use Rattle.std.specs.List.{list_all}
use Rattle.rv_pla.specs.Row.{is_output}
use Rattle.rv_pla.proofs.Rows.{AreFrom}
use Rattle.rv_pla.proofs.row.outputs_of.Given as goal

abbrev pub invariant-loop-i : goal.invariant-loop-i
invariant-loop-i l = record {
  at : l.i ≤ length l.row;
  ones : AreFrom 49 52 l.row l.i l.ones;
  zeros : AreFrom 48 48 l.row l.i l.zeros;
  dashes : AreFrom 45 50 l.row l.i l.dashes;
  all : l.are_outputs ≡ list_all is_output (drop l.i l.row);
}

abbrev pub decreases-loop-i : goal.decreases-loop-i
decreases-loop-i l = l.i
