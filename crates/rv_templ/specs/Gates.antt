-- Lists of gates.
use Rattle.std.specs.Prelude.{◌≡◌, ℕ, Bool, List, [], ◌∷◌, length, slice_index_or}
use Rattle.rv_gate.specs.declared.gate.Shape.{Shape}
use Rattle.rv_gate.specs.declared.gate.Shape.TheVariants.{Peres}
use Rattle.rv_gate.specs.Gate.{run, FitsIn, IsGate, IsFlip}
use Rattle.rv_gate.specs.Every.{Every}

abbrev pub no_gate : Shape
no_gate = Peres 0 0 0

-- the gate at a place
abbrev pub gate_in : List Shape → ℕ → Shape
gate_in gates j = slice_index_or gates j no_gate

-- each is a gate, and fits n lines
abbrev pub AreGates : ℕ → List Shape → Type 0
AreGates n [] = Unit {0}
AreGates n (g ∷ rest) = IsGate g × FitsIn g n × AreGates n rest

abbrev pub Flips : List Shape → Type 0
Flips gates = Every IsFlip gates

-- the gates step no word of n lines
abbrev pub Identity : ℕ → List Shape → Type 0
Identity n gates = (word : List Bool) → length word ≡ n → run gates word ≡ word

-- the same on every word of n lines
abbrev pub Same : ℕ → List Shape → List Shape → Type 0
Same n left right = (word : List Bool) → length word ≡ n → run left word ≡ run right word
