use Rattle.std.proofs.Common.{◌≡◌, map}
use Rattle.std.specs.List.{range_with_len}
use Rattle.rv_embed.specs.Filled.{row}
use Rattle.rv_embed.specs.inside.Rows.{entries_row}
use Rattle.rv_embed.proofs.row.rows_of.Given as goal

abbrev pub invariant-loop-input : goal.invariant-loop-input
invariant-loop-input l = l.rows.items ≡ map (λ x. entries_row (row l.pla x) l.pla.outputs) (range_with_len 0 l.input)
