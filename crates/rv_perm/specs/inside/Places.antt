-- The places at which the numbers of a list stand.
use Rattle.std.specs.Prelude.{ℕ, ◌≡◌, ◌<◌, List, length, slice_index}

-- at each y the preimages have the place at which y stands in the images
pub record AreInverse (images preimages : List ℕ) : Type 0 where
  pub len : length preimages ≡ length images
  pub within : (x : ℕ) → x < length images → slice_index images x < length images
  pub below : (y : ℕ) → y < length images → slice_index preimages y < length images
  pub back : (x : ℕ) → x < length images → slice_index preimages (slice_index images x) ≡ x
  pub there : (y : ℕ) → y < length images → slice_index images (slice_index preimages y) ≡ y
