-- When a map of words, with constants at its inputs and garbage at its outputs, gives what a PLA asks.
use Rattle.std.specs.Prelude.{◌≡◌, Bool, List, length}
use Rattle.rv_gate.specs.Word.{bit_of}
use Rattle.rv_gate.specs.Marks.{input_count, output_count, with_constants, without_garbage}
use Rattle.rv_gate.specs.declared.circuit.Mark.{Mark}
use Rattle.rv_pla.specs.Pla.{TwoLevel}
use Rattle.rv_pla.specs.FreeEntries.{IsAllowed}

-- y is a word that the PLA allows at the input word x: of as many bits as there are outputs
pub record Meets (pla : TwoLevel) (x y : List Bool) : Type 0 where
  pub count : length y ≡ pla.outputs
  pub allowed : IsAllowed pla x (bit_of y)

-- the map gives, at each input word, what the PLA asks
pub record Realizes (pla : TwoLevel) (word_after : List Bool → List Bool) (constants : List Mark)
    (garbage : List Bool) : Type 0 where
  pub inputs : input_count constants ≡ pla.inputs
  pub outputs : output_count garbage ≡ pla.outputs
  pub gives : (x : List Bool) → length x ≡ pla.inputs
      → Meets pla x (without_garbage garbage (word_after (with_constants constants x)))
