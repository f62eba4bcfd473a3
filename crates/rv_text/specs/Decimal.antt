-- Decimal numbers: digits without a sign.
use Rattle.std.specs.Prelude.{ℕ, ◌+◌, Bool, List, length, ◌&&◌, nat_lt}
use Rattle.std.specs.Str.{all_ascii_digits}
use Rattle.std.specs.Str.Parse.{digits_value}

-- digits alone, and one at least
abbrev pub is_decimal : List ℕ → Bool
is_decimal bytes = nat_lt 0 (length bytes) && all_ascii_digits bytes

-- the number that decimal digits write
abbrev pub decimal_value : List ℕ → ℕ
decimal_value digits = digits_value 10 digits

-- a number of at most so many digits
abbrev pub is_short_decimal : ℕ → List ℕ → Bool
is_short_decimal most bytes = is_decimal bytes && nat_lt (length bytes) (most + 1)

-- a number over 0, of at most nine digits
abbrev pub is_count : List ℕ → Bool
is_count bytes = is_short_decimal 9 bytes && nat_lt 0 (decimal_value bytes)
