-- Where the operands of a node stand.
use Rattle.std.specs.Prelude.{ℕ, ◌≡◌, ◌≢◌, ◌<◌, Bool, List, length, slice_index_or, Option, Some, None}
use Rattle.rv_gate.specs.Word.{bit_of}
use Rattle.rv_gate.specs.Gate.{same}
use Rattle.rv_compute.specs.declared.place.Place.{Place}
use Rattle.rv_compute.specs.declared.place.Place.TheVariants.{Line, Constant}

-- what is read at a place
abbrev pub place_value : List Bool → Place → Bool
place_value word (Line line on) = same (bit_of word line) on
place_value word (Constant bit) = bit

-- the place of an operand, where it has one
abbrev pub place_at : List (Option Place) → ℕ → Option Place
place_at places operand = slice_index_or places operand None

-- a place on one of so many lines, and not on one of them
abbrev pub IsBeside : ℕ → ℕ → Place → Type 0
IsBeside lines target (Line line on) = (line < lines) × (line ≢ target)
IsBeside lines target (Constant bit) = Unit {0}

abbrev pub AreBeside : ℕ → ℕ → List (Option Place) → Type 0
AreBeside lines target places =
    (operand : ℕ) (place : Place) → place_at places operand ≡ Some place → IsBeside lines target place

-- each operand has its place
abbrev pub AreThere : List (Option Place) → Type 0
AreThere places = (operand : ℕ) → operand < length places → place_at places operand ≢ None

-- a value is read at a place
abbrev pub IsRead : List Bool → Option Place → Bool → Type 0
IsRead word place value = (there : Place) → place ≡ Some there → place_value word there ≡ value

-- the bits of the operands are read at their places
abbrev pub AreRead : List (Option Place) → List Bool → List Bool → Type 0
AreRead places word bits =
    (operand : ℕ) → IsRead word (place_at places operand) (bit_of bits operand)
