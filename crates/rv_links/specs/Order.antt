-- Numbers in an order.
use Rattle.std.specs.Prelude.{ℕ, ◌<◌, Bool, ◌==◌, if◌then◌else◌, List, [], ◌∷◌, Option, Some, None, IsTrue, IsFalse}
use Rattle.std.specs.List.{list_any}

abbrev pub lists : ℕ → List ℕ → Bool
lists x ys = list_any (λ y. x == y) ys

-- no number stands twice
abbrev pub NoTwice : List ℕ → Type 0
NoTwice [] = Unit {0}
NoTwice (x ∷ xs) = IsFalse (lists x xs) × NoTwice xs

-- each number is less than those after it
abbrev pub Rising : List ℕ → Type 0
Rising [] = Unit {0}
Rising (x ∷ xs) = ((y : ℕ) → IsTrue (lists y xs) → x < y) × Rising xs

abbrev pub head : List ℕ → Option ℕ
head [] = None
head (x ∷ xs) = Some x

-- the number directly after x
unfoldable pub next_in : ℕ → List ℕ → Option ℕ
next_in x [] = None
next_in x (y ∷ ys) = if x == y then head ys else next_in x ys

unfoldable pub prev_from : Option ℕ → ℕ → List ℕ → Option ℕ
prev_from before x [] = None
prev_from before x (y ∷ ys) = if x == y then before else prev_from (Some y) x ys

-- the number directly before x
abbrev pub prev_in : ℕ → List ℕ → Option ℕ
prev_in x ids = prev_from None x ids
