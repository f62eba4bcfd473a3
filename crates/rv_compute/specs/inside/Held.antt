-- What stands on the lines while a circuit is made.
use Rattle.std.specs.Prelude.{ℕ, ◌≡◌, ◌+◌, ◌-◌, ◌<◌, ◌≤◌, ◌⊎◌, Bool, true, false, List, ◌++◌, length, replicate, slice_get, slice_index, slice_index_or, Option, Some, None, if◌then◌else◌, nat_lt, map, slice_set}
use Rattle.std.specs.Option.{option_map}
use Rattle.rv_gate.specs.Word.{bit_of}
use Rattle.rv_gate.specs.Gate.{run, xor}
use Rattle.rv_gate.specs.declared.gate.Shape.{Shape}
use Rattle.rv_blif.specs.Logic.{Logic, values}
use Rattle.rv_compute.specs.declared.place.Place.{Place}
use Rattle.rv_blif.specs.declared.product.Product.{Product}
use Rattle.rv_compute.specs.inside.Sums.{sum_of}
use Rattle.rv_compute.specs.inside.Blocks.{Adds}
use Rattle.rv_compute.specs.inside.Places.{place_value, place_at, IsBeside}

-- what a line holds beside what it began with: nothing, or a signal
abbrev pub held_value : List Bool → Option ℕ → Bool
held_value signals None = false
held_value signals (Some signal) = bit_of signals signal

abbrev pub held_at : List (Option ℕ) → ℕ → Option ℕ
held_at held line = slice_index_or held line None

-- the word that is put in, and what the lines of the outputs have in it
abbrev pub put_in : ℕ → List Bool → List Bool → List Bool
put_in work x y = (x ++ y) ++ replicate work false

abbrev pub line_count : Logic → ℕ → ℕ
line_count logic work = length logic.inputs + length logic.outputs + work

-- after the gates each line holds what is told
pub record Stands (logic : Logic) (work : ℕ) (held : List (Option ℕ)) (gates : List Shape) : Type 0 where
  pub count : length held ≡ line_count logic work
  pub each : (x y : List Bool) (line : ℕ) → length x ≡ length logic.inputs → length y ≡ length logic.outputs
      → line < line_count logic work
      → bit_of (run gates (put_in work x y)) line
      ≡ xor (bit_of (put_in work (replicate (length x) false) y) line) (held_value (values logic x) (held_at held line))

-- the line is not one of the outputs
abbrev pub IsFree : Logic → ℕ → Type 0
IsFree logic line = (line < length logic.inputs) ⊎ (length logic.inputs + length logic.outputs ≤ line)

-- the signal stands on a line that isn't an output's
pub record StandsFree (logic : Logic) (held : List (Option ℕ)) (signal line : ℕ) : Type 0 where
  pub there : line < length held
  pub free : IsFree logic line
  pub holds : held_at held line ≡ Some signal

-- a signal is another, or nothing, changed or not
pub record IsSource (logic : Logic) (signal : ℕ) (changed : Bool) (source : Option ℕ) : Type 0 where
  pub value : (x : List Bool) → length x ≡ length logic.inputs
      → bit_of (values logic x) signal ≡ xor (held_value (values logic x) source) changed

-- a word has on the lines that aren't outputs what is told of them
abbrev pub Tells : Logic → List (Option ℕ) → List Bool → List Bool → Type 0
Tells logic held x word =
    (line : ℕ) → line < length held → IsFree logic line
    → bit_of word line ≡ held_value (values logic x) (held_at held line)

-- a place beside a line, at which a signal is read in each word that has on its lines what is told
pub record IsPlaceFor (logic : Logic) (held : List (Option ℕ)) (target signal : ℕ) (place : Place) : Type 0 where
  pub beside : IsBeside (length held) target place
  pub value : (x word : List Bool) → length x ≡ length logic.inputs → Tells logic held x word
      → place_value word place ≡ bit_of (values logic x) signal

-- that, if there is one
pub record IsPlaceIf (logic : Logic) (held : List (Option ℕ)) (target signal : ℕ) (place : Option Place) : Type 0 where
  pub each : (there : Place) → place ≡ Some there → IsPlaceFor logic held target signal there

pub record ArePlacesFor (logic : Logic) (held : List (Option ℕ)) (target : ℕ) (signals : List ℕ)
    (places : List (Option Place)) : Type 0 where
  pub count : length places ≡ length signals
  pub each : (operand : ℕ) (place : Place) → place_at places operand ≡ Some place
      → IsPlaceFor logic held target (slice_index signals operand) place

-- what a line is to hold at the end
abbrev pub due : Logic → ℕ → Option ℕ
due logic line =
    if nat_lt line (length logic.inputs) then Some line
    else option_map (λ output. output.signal) (slice_get logic.outputs (line - length logic.inputs))

abbrev pub IsDone : Logic → List (Option ℕ) → Type 0
IsDone logic held = (line : ℕ) → line < length held → held_at held line ≡ due logic line

-- one of the two stands for the other
abbrev pub IsExchanged : Option ℕ → Option ℕ → Option ℕ → Option ℕ → Type 0
IsExchanged held one other next = ((held ≡ one) × (next ≡ other)) ⊎ ((held ≡ other) × (next ≡ one))

-- a signal, or nothing, is another, or nothing, and a sum of products of signals together
pub record IsChange (logic : Logic) (signals : List ℕ) (products : List Product) (old new : Option ℕ) : Type 0 where
  pub value : (x : List Bool) → length x ≡ length logic.inputs
      → held_value (values logic x) new
      ≡ xor (held_value (values logic x) old) (sum_of products (map (bit_of (values logic x)) signals))

-- products have been added to a line, which now holds something else; or nothing was done
pub record PutsIn (places : List (Option Place)) (line : ℕ) (products : List Product) (next : Option ℕ)
    (old_held : List (Option ℕ)) (old_gates : List Shape) (held : List (Option ℕ)) (gates : List Shape) : Type 0 where
  pub block : List Shape
  pub adds : Adds (length old_held) places line products block
  pub held_is : held ≡ slice_set old_held line next
  pub gates_are : gates ≡ old_gates ++ block

abbrev pub IsPut : List (Option Place) → ℕ → List Product → Option ℕ → List (Option ℕ) → List Shape → List (Option ℕ)
    → List Shape → Bool → Type 0
IsPut places line products next old_held old_gates held gates false = (held ≡ old_held) × (gates ≡ old_gates)
IsPut places line products next old_held old_gates held gates true =
    PutsIn places line products next old_held old_gates held gates

-- products of signals have been added to a line, which now holds something else; or nothing was done
pub record PutsFor (logic : Logic) (signals : List ℕ) (line : ℕ) (products : List Product) (next : Option ℕ)
    (old_held : List (Option ℕ)) (old_gates : List Shape) (held : List (Option ℕ)) (gates : List Shape) : Type 0 where
  pub places : List (Option Place)
  pub are : ArePlacesFor logic old_held line signals places
  pub puts : PutsIn places line products next old_held old_gates held gates

abbrev pub IsPutFor : Logic → List ℕ → ℕ → List Product → Option ℕ → List (Option ℕ) → List Shape → List (Option ℕ)
    → List Shape → Bool → Type 0
IsPutFor logic signals line products next old_held old_gates held gates false =
    (held ≡ old_held) × (gates ≡ old_gates)
IsPutFor logic signals line products next old_held old_gates held gates true =
    PutsFor logic signals line products next old_held old_gates held gates
