-- What the code's structs show.
use Rattle.std.specs.Prelude.{◌^◌, List, slice_index_or, false}
use Rattle.rv_fold.specs.Parities.{Parity, Parities}

-- the parities on lines 0, 1, ..; every other line is alone
abbrev pub parities_of : List Parity → Parities
parities_of list line = slice_index_or list line (record { lines = 2 ^ line; flipped = false })
