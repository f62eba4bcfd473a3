-- The ranks of all input words, as they are kept.
use Rattle.std.specs.Prelude.{ℕ, List, length, map}
use Rattle.std.specs.List.{range_with_len}
use Rattle.rv_embed.specs.Classes.{rank}

abbrev pub ranks_of : List ℕ → List ℕ
ranks_of outputs = map (rank outputs) (range_with_len 0 (length outputs))
