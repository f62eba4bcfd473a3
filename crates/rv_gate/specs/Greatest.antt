-- The greatest of some numbers.
use Rattle.std.specs.Prelude.{ℕ, List, [], ◌∷◌, max}

-- the greatest value of f on a list, 0 on the empty one
unfoldable pub greatest : {X : Type 0} → (X → ℕ) → List X → ℕ
greatest f [] = 0
greatest f (x ∷ rest) = max (f x) (greatest f rest)
