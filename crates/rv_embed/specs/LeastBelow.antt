-- The least number that passes a test.
use Rattle.std.specs.Prelude.{ℕ, Bool}
use Rattle.std.specs.List.{position_or_len, range_with_len}

-- the least number below n that passes, or n
abbrev pub least_below : (ℕ → Bool) → ℕ → ℕ
least_below passes n = position_or_len passes (range_with_len 0 n)
