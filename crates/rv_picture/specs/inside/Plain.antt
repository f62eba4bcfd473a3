-- A byte that stands in a label as it is.
use Rattle.std.specs.Prelude.{ℕ, Bool, List, not, nat_lt, ◌&&◌}
use Rattle.rv_picture.specs.Labels.{Escape, is_special, is_visible}

-- of ASCII, no control character, and without another meaning
abbrev pub is_plain : List Escape → ℕ → Bool
is_plain table byte = nat_lt byte 128 && (is_visible byte && not (is_special table byte))
