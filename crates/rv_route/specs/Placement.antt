-- Linear nearest neighbour: lines on a row of positions. A placement (layout) is the list of the lines by their
-- positions.
use Rattle.std.specs.Prelude.{ℕ, ◌≤◌, Bool, List, map, ◌==◌, IsTrue}
use Rattle.std.specs.List.{position_or_len, range_with_len}
use Rattle.rv_gate.specs.Word.{has, bit_of, ones_of}
use Rattle.rv_gate.specs.Gate.{touches}
use Rattle.rv_gate.specs.declared.gate.Shape.{Shape}
use Rattle.rv_gate.specs.declared.gate.Shape.TheVariants.{Flip, Swap, Peres}

-- each of so many lines at the position of its number
abbrev pub home : ℕ → List ℕ
home lines = range_with_len 0 lines

-- where a line stands
abbrev pub position_of : List ℕ → ℕ → ℕ
position_of placement line = position_or_len (λ other. other == line) placement

-- the positions of a set of lines
abbrev pub positions_of : List ℕ → ℕ → ℕ
positions_of placement lines = ones_of (map (has lines) placement)

-- a word of the lines, as it stands on the positions
abbrev pub word_on : List ℕ → List Bool → List Bool
word_on placement word = map (bit_of word) placement

-- a gate with each line replaced by its position
abbrev pub gate_on : List ℕ → Shape → Shape
gate_on placement (Flip care want target) =
    Flip (positions_of placement care) (positions_of placement want) (position_of placement target)
gate_on placement (Swap care want a b) =
    Swap (positions_of placement care) (positions_of placement want) (position_of placement a) (position_of placement b)
gate_on placement (Peres a b c) = Peres (position_of placement a) (position_of placement b) (position_of placement c)

-- the lines that a gate touches are consecutive: it touches each line between two of them
abbrev pub IsNear : Shape → Type 0
IsNear g =
    (first line last : ℕ) → IsTrue (touches g first) → IsTrue (touches g last) → first ≤ line → line ≤ last
    → IsTrue (touches g line)
