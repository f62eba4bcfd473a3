-- The bytes that have a meaning in lines and tokens.
use Rattle.std.specs.Prelude.{ℕ, Bool, List, ◌==◌, if◌then◌else◌, slice_index}

abbrev pub line_feed : ℕ
line_feed = 10

abbrev pub carriage_return : ℕ
carriage_return = 13

abbrev pub tab : ℕ
tab = 9

abbrev pub space : ℕ
space = 32

-- "
abbrev pub quote : ℕ
quote = 34

-- #
abbrev pub hash : ℕ
hash = 35

-- .
abbrev pub dot : ℕ
dot = 46

-- the byte that a bit is written as: `1` or `0`
abbrev pub bit_byte : Bool → ℕ
bit_byte bit = if bit then 49 else 48

-- the first word of a directive
abbrev pub begins_with_dot : List ℕ → Bool
begins_with_dot name = slice_index name 0 == dot
