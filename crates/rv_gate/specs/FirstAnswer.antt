-- The first of the answers to numbers.
use Rattle.std.specs.Prelude.{ℕ, zero, suc, ◌+◌, Option, None}
use Rattle.std.specs.Option.{option_or}

-- the first answer among m numbers from k on
unfoldable pub first : {A : Type 0} → (ℕ → Option A) → ℕ → ℕ → Option A
first f k zero = None
first f k (suc m) = option_or (f k) (first f (k + 1) m)
