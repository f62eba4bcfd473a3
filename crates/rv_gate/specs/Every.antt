-- What holds of each element of a list.
use Rattle.std.specs.Prelude.{List, [], ◌∷◌}

abbrev pub Every : {A : Type 0} → (A → Type 0) → List A → Type 0
Every P [] = Unit {0}
Every P (x ∷ rest) = P x × Every P rest
