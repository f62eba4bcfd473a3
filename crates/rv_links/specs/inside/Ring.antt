-- Links that hold numbers in an order.
use Rattle.std.specs.Prelude.{◌≡◌, ℕ, zero, suc, ◌+◌, ◌<◌, ◌≤◌, ◌^◌, ◌==◌, if◌then◌else◌, List, [], ◌∷◌, length, slice_index, IsTrue, IsFalse}
use Rattle.rv_links.specs.Order.{lists, NoTwice}

-- an order of some of the numbers below room
pub record Order : Type 0 where
  pub room : ℕ
  pub ids : List ℕ

unfoldable pub without : ℕ → List ℕ → List ℕ
without x [] = []
without x (y ∷ ys) = if x == y then ys else y ∷ without x ys

-- the numbers after x
unfoldable pub rest_after : ℕ → List ℕ → List ℕ
rest_after x [] = []
rest_after x (y ∷ ys) = if x == y then ys else rest_after x ys

-- the links lead from a over the numbers to z, and back
abbrev pub Joined : (ℕ → ℕ) → (ℕ → ℕ) → ℕ → List ℕ → ℕ → Type 0
Joined next prev a [] z = (next a ≡ z) × (prev z ≡ a)
Joined next prev a (x ∷ xs) z = (next a ≡ x) × (prev x ≡ a) × Joined next prev x xs z

-- the numbers to which the links lead from a, until z
unfoldable pub walk : (ℕ → ℕ) → ℕ → ℕ → ℕ → List ℕ
walk next zero a z = []
walk next (suc n) a z = if next a == z then [] else next a ∷ walk next n (next a) z

-- the links of an order: room itself stands at both ends, and a number that isn't there leads to itself
pub record IsChain (next prev : List ℕ) (room : ℕ) (ids : List ℕ) : Type 0 where
  pub long_next : length next ≡ room + 1
  pub long_prev : length prev ≡ room + 1
  pub small : room < 2 ^ 32
  pub next_in_room : (i : ℕ) → slice_index next i ≤ room
  pub prev_in_room : (i : ℕ) → slice_index prev i ≤ room
  pub joined : Joined (slice_index next) (slice_index prev) room ids room
  pub once : NoTwice ids
  pub below : (x : ℕ) → IsTrue (lists x ids) → x < room
  pub absent : (x : ℕ) → x < room → IsFalse (lists x ids) → slice_index next x ≡ x

abbrev pub ids_of : List ℕ → ℕ → List ℕ
ids_of next room = walk (slice_index next) room room room

abbrev pub IsRing : List ℕ → List ℕ → ℕ → Type 0
IsRing next prev room = IsChain next prev room (ids_of next room)
