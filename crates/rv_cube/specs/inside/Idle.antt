-- What is asked of the search for an output that can be dropped.
use Rattle.std.specs.Prelude.{◌≡◌, ℕ, ◌^◌, ◌<◌, true, false, List, length, map}
use Rattle.std.specs.List.{range_with_len}
use Rattle.rv_gate.specs.Word.{ones_of, word_of}
use Rattle.rv_pla.specs.declared.cube.Cube.{Cube}
use Rattle.rv_pla.specs.Pla.{TwoLevel, entry}
use Rattle.rv_pla.specs.FreeEntries.{is_dont_care}
use Rattle.rv_cube.specs.Reduction.{at}
use Rattle.rv_cube.specs.ReductionFor.{is_idle}

-- the set of the outputs that are free at a word, and these sets by the numbers of the words
abbrev pub free_at : TwoLevel → ℕ → ℕ
free_at pla x =
    ones_of (map (λ output. is_dont_care (entry pla (word_of pla.inputs x) output)) (range_with_len 0 pla.outputs))

abbrev pub free_sets : TwoLevel → List ℕ
free_sets pla = map (free_at pla) (range_with_len 0 (2 ^ pla.inputs))

-- no output of the cube can be dropped
abbrev pub HasNoIdle : TwoLevel → Cube → Type 0
HasNoIdle pla cube = (output : ℕ) → output < pla.outputs → is_idle pla cube output ≡ false

-- the least output that can
pub record IsLeastIdle (pla : TwoLevel) (cube : Cube) (output : ℕ) : Type 0 where
  pub within : output < pla.outputs
  pub idle : is_idle pla cube output ≡ true
  pub before : (k : ℕ) → k < output → is_idle pla cube k ≡ false

-- the least slot with such an output, and that output
pub record IsFirstIdle (pla : TwoLevel) (slots : List Cube) (a output : ℕ) : Type 0 where
  pub within : a < length slots
  pub least : IsLeastIdle pla (at slots a) output
  pub before : (i : ℕ) → i < a → HasNoIdle pla (at slots i)
