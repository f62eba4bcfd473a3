-- What the steps that were made have left.
use Rattle.std.specs.Prelude.{◌≡◌, ◌<◌, ℕ, List, slice_index}

-- the numbers below k stay where they are
abbrev pub FixedBelow : ℕ → List ℕ → Type 0
FixedBelow k images = (y : ℕ) → y < k → slice_index images y ≡ y
