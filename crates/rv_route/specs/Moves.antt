-- SWAP insertion: lines move over the row by swaps of neighbours. A swap is the lower one of its two positions.
use Rattle.std.specs.Prelude.{ℕ, ◌+◌, ◌-◌, ◌/◌, List, [], ◌∷◌, ◌++◌, length, reverse, take, drop, slice_index}
use Rattle.std.specs.List.{filter, range_with_len, swap}
use Rattle.rv_gate.specs.Gate.{touches}
use Rattle.rv_gate.specs.declared.gate.Shape.{Shape}
use Rattle.rv_gate.specs.declared.gate.Shape.TheVariants.{Swap}
use Rattle.rv_route.specs.Placement.{position_of}

-- ---- one line moves, one position at a time

-- the line at a position moves up to a higher one
abbrev pub swaps_up : ℕ → ℕ → List ℕ
swaps_up from to = range_with_len from (to - from)

-- the line at a position moves down to a lower one
abbrev pub swaps_down : ℕ → ℕ → List ℕ
swaps_down from to = reverse (range_with_len to (from - to))

-- a placement after swaps
unfoldable pub swapped : List ℕ → List ℕ → List ℕ
swapped [] placement = placement
swapped (p ∷ rest) placement = swapped rest (swap placement p (p + 1))

-- the gate that swaps neighbours
abbrev pub neighbours : ℕ → Shape
neighbours p = Swap 0 0 p (p + 1)

-- ---- the lines of a gate gather

-- the lines at ascending positions move up to the positions right below top: the highest one first
unfoldable pub moves_up : List ℕ → ℕ → List ℕ
moves_up [] top = []
moves_up (p ∷ rest) top = moves_up rest top ++ swaps_up p (top - length (p ∷ rest))

-- the lines at ascending positions move down to the positions right above bottom: the lowest one first
unfoldable pub moves_down : List ℕ → ℕ → List ℕ
moves_down [] bottom = []
moves_down (p ∷ rest) bottom = swaps_down p (bottom + 1) ++ moves_down rest (bottom + 1)

-- the middle one of so many positions, counted from 0: of two, the lower one
abbrev pub middle : ℕ → ℕ
middle count = (count - 1) / 2

-- the lines at ascending positions gather around the middle one: first those below it move up, then those above it down
abbrev pub gathering : List ℕ → List ℕ
gathering positions =
    moves_up (take (middle (length positions)) positions) (slice_index positions (middle (length positions)))
    ++ moves_down (drop (middle (length positions) + 1) positions) (slice_index positions (middle (length positions)))

-- the positions of the lines that a gate touches, in ascending order
abbrev pub touched_positions : List ℕ → Shape → List ℕ
touched_positions placement g =
    filter (λ position. touches g (slice_index placement position)) (range_with_len 0 (length placement))

-- ---- the way home

-- each of these lines moves down to the position of its number
unfoldable pub way_home : List ℕ → List ℕ → List ℕ
way_home [] placement = []
way_home (line ∷ rest) placement =
    let swaps : List ℕ = swaps_down (position_of placement line) line in
    swaps ++ way_home rest (swapped swaps placement)
