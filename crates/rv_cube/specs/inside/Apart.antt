-- Where two cubes differ, as far as a step asks.
use Rattle.std.specs.Prelude.{ℕ, ◌≡◌, ◌<◌, List, [], ◌∷◌, length}
use Rattle.rv_cube.specs.declared.distance.Apart.{Apart}
use Rattle.rv_cube.specs.declared.distance.Apart.TheVariants.{Same, OneInput, TwoInputs, More}

-- the inputs in which they differ, where they are two at most
abbrev pub apart_of : List ℕ → Apart
apart_of [] = Same
apart_of (p ∷ []) = OneInput p
apart_of (p ∷ q ∷ []) = TwoInputs p q
apart_of (p ∷ q ∷ r ∷ rest) = More

-- one more input
abbrev pub further : Apart → ℕ → Apart
further Same input = OneInput input
further (OneInput p) input = TwoInputs p input
further (TwoInputs p q) input = More
further More input = More

-- the inputs below n of a list are told
abbrev pub Tells : ℕ → List ℕ → Apart → Type 0
Tells n inputs Same = inputs ≡ []
Tells n inputs (OneInput p) = (inputs ≡ p ∷ []) × (p < n)
Tells n inputs (TwoInputs p q) = (inputs ≡ p ∷ q ∷ []) × (p < n) × (q < n)
Tells n inputs More = 2 < length inputs
