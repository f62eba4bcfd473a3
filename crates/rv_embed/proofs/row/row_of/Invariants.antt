use Rattle.std.proofs.Common.{◌≡◌}
use Rattle.rv_pla.specs.Zeros.{bit_for}
use Rattle.rv_pla.specs.FreeEntries.{is_dont_care}
use Rattle.rv_embed.specs.Filled.{row}
use Rattle.rv_embed.specs.inside.Rows.{bits_by, is_set}
use Rattle.rv_embed.proofs.row.row_of.Given as goal

abbrev pub invariant-loop-output : goal.invariant-loop-output
invariant-loop-output l = record {
  care : l.care ≡ bits_by is_set (row l.pla l.input) l.output;
  want : l.want ≡ bits_by bit_for (row l.pla l.input) l.output;
  free : l.free ≡ bits_by is_dont_care (row l.pla l.input) l.output;
}
