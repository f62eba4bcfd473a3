-- Lines that are found by their names, where these are short.
use Rattle.std.specs.Prelude.{◌≡◌, ℕ, ◌+◌, ◌*◌, ◌<◌, List, [], ◌∷◌, length, slice_index, All}
use Rattle.rv_real.specs.declared.places.Places.{Places}
use Rattle.rv_real.specs.Text.{name_at}

-- a name of one to three bytes as a number, and 0 of any other
abbrev pub key_of : List ℕ → ℕ
key_of [] = 0
key_of (a ∷ []) = 256 + a
key_of (a ∷ b ∷ []) = (256 + a) * 256 + b
key_of (a ∷ b ∷ d ∷ []) = ((256 + a) * 256 + b) * 256 + d
key_of (a ∷ b ∷ d ∷ e ∷ more) = 0

abbrev pub AreBytes : List ℕ → Type 0
AreBytes name = All (λ byte. byte < 256) name

-- a key is that of the name of a line
pub record IsKeyOf (names : List (List ℕ)) (line key : ℕ) : Type 0 where
  pub within : line < length names
  pub bytes : AreBytes (name_at names line)
  pub same : key_of (name_at names line) ≡ key

-- a table that holds no key, or that of the line beside it, at each place
pub record ArePlaces (names : List (List ℕ)) (places : Places) : Type 0 where
  pub keys : length places.keys ≡ 256
  pub lines : length places.lines ≡ 256
  pub each : (place : ℕ) → place < 256 → 0 < slice_index places.keys place
      → IsKeyOf names (slice_index places.lines place) (slice_index places.keys place)
