-- The least number at which something doesn't hold.
use Rattle.std.specs.Prelude.{ℕ, ◌<◌, Option, Some, None}
use Rattle.rv_compare.specs.Compare.{IsLeastFailing}

-- there is none below a count, or it is this one
abbrev pub IsFirstFailing : ℕ → (ℕ → Type 0) → Option ℕ → Type 0
IsFirstFailing count P None = (k : ℕ) → k < count → P k
IsFirstFailing count P (Some k) = IsLeastFailing count P k
