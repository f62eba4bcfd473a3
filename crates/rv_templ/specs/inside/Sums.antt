-- Sums over numbers.
use Rattle.std.specs.Prelude.{ℕ, zero, suc, ◌+◌}

-- the sum of f 0, f 1, .. below n
unfoldable pub sum_below : (ℕ → ℕ) → ℕ → ℕ
sum_below f zero = 0
sum_below f (suc i) = sum_below f i + f i
