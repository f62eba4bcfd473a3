-- Which flips turn a word into the goal, by the word before each of them.
use Rattle.std.specs.Prelude.{◌≡◌, ℕ, ◌<◌, Bool, true, false, List, [], ◌∷◌, ◌++◌, length}
use Rattle.rv_gate.specs.Word.{bit_of}
use Rattle.rv_gate.specs.Gate.{flip, run}
use Rattle.rv_gate.specs.declared.gate.Shape.{Shape}
use Rattle.rv_gate.specs.declared.gate.Shape.TheVariants.{Flip}
use Rattle.rv_tbs.specs.Synthesis.{is_set_due, set_controls, is_clear_due, clear_controls}

-- no line of the word is due
abbrev pub NoneDue : (ℕ → Bool → Bool) → List Bool → Type 0
NoneDue due word = (line : ℕ) → line < length word → due line (bit_of word line) ≡ false

-- the lowest line of the word that is due
pub record IsNextDue (due : ℕ → Bool → Bool) (word : List Bool) (line : ℕ) : Type 0 where
  pub within : line < length word
  pub asked : due line (bit_of word line) ≡ true
  pub first : (other : ℕ) → other < line → due other (bit_of word other) ≡ false

-- Flips of a word: each turns the lowest line that is due in the word before it, and after the last none is due.
abbrev pub AreDueFlips : (ℕ → Bool → Bool) → (List Bool → ℕ → ℕ) → List Bool → List Shape → Type 0
AreDueFlips due controls word [] = NoneDue due word
AreDueFlips due controls word (gate ∷ gates) =
    (line : ℕ) × IsNextDue due word line × (gate ≡ Flip (controls word line) (controls word line) line)
    × AreDueFlips due controls (flip word line) gates

-- lines of the word are set, and then lines are cleared
pub record AreTurning (goal word : List Bool) (gates : List Shape) : Type 0 where
  pub sets : List Shape
  pub clears : List Shape
  pub gates_are : gates ≡ sets ++ clears
  pub set : AreDueFlips (is_set_due goal) set_controls word sets
  pub cleared : AreDueFlips (is_clear_due goal) (clear_controls goal) (run sets word) clears
