-- What placements, positions and moves keep.
use Rattle.std.specs.Prelude.{◌≡◌, ℕ, ◌+◌, ◌-◌, ◌<◌, ◌≤◌, ◌==◌, ◌&&◌, not, nat_lt, if◌then◌else◌, List, [], ◌∷◌, ◌++◌, length, slice_index, All}
use Rattle.rv_route.specs.Placement.{position_of}
use Rattle.rv_route.specs.Moves.{swaps_up, swaps_down}
use Rattle.rv_route.specs.declared.moves.Move.{Move}

-- n lines on n positions, where each line has its place
pub record IsPlacement (n : ℕ) (placement : List ℕ) : Type 0 where
  pub len : length placement ≡ n
  pub place : ℕ → ℕ
  pub line : (p : ℕ) → p < n → (slice_index placement p < n) × (place (slice_index placement p) ≡ p)
  pub stands : (line : ℕ) → line < n → (place line < n) × (slice_index placement (place line) ≡ line)

-- the inverse of a placement: where each line stands
pub record Stands (row places : List ℕ) : Type 0 where
  pub placement : IsPlacement (length places) row
  pub at : (line : ℕ) → line < length places → slice_index places line ≡ position_of row line

-- the inverse of some placement
abbrev pub IsTable : List ℕ → Type 0
IsTable places = (row : List ℕ) × Stands row places

-- positions from low on, below n, each above the one before
abbrev pub AreAscending : ℕ → ℕ → List ℕ → Type 0
AreAscending low n [] = Unit {0}
AreAscending low n (p ∷ rest) = (low ≤ p) × (p < n) × AreAscending (p + 1) n rest

-- a swap of two of n positions
abbrev pub IsSwap : ℕ → ℕ → Type 0
IsSwap n p = p + 1 < n

-- ---- moves of a line over several positions

-- where a line stands after the line at a position has moved to another
abbrev pub shifted : ℕ → ℕ → ℕ → ℕ
shifted from to p =
    if p == from then to
    else (if nat_lt from p && not (nat_lt to p) then p - 1
    else (if not (nat_lt p to) && nat_lt p from then p + 1 else p))

-- the swaps of a move: up or down, and one of these lists is empty
abbrev pub swaps_of : ℕ → ℕ → List ℕ
swaps_of from to = swaps_up from to ++ swaps_down from to

unfoldable pub swaps_by : List Move → List ℕ
swaps_by [] = []
swaps_by (m ∷ rest) = swaps_of m.from m.to ++ swaps_by rest

-- moves on n positions
abbrev pub AreMoves : ℕ → List Move → Type 0
AreMoves n moves = All (λ (m : Move). (m.from < n) × (m.to < n)) moves
