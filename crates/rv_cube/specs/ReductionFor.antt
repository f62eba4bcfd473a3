-- The steps that reduce a list of cubes for a PLA, whose free entries may take any value.
use Rattle.std.specs.Prelude.{ℕ, ◌+◌, ◌^◌, ◌≡◌, ◌&&◌, ◌||◌, Bool, not, List, length, if◌then◌else◌, bit_xor, Option, None, Some}
use Rattle.std.specs.Option.{option_or}
use Rattle.std.specs.List.{count_by, range_with_len, sum_by}
use Rattle.rv_gate.specs.Gate.{all_below}
use Rattle.rv_gate.specs.Word.{has, word_of}
use Rattle.rv_pla.specs.Cube.{matches}
use Rattle.rv_pla.specs.declared.cube.Cube.{Cube}
use Rattle.rv_pla.specs.Pla.{TwoLevel, entry}
use Rattle.rv_pla.specs.FreeEntries.{IsAllowed, is_dont_care}
use Rattle.rv_cube.specs.Esop.{esop_value}
use Rattle.rv_gate.specs.FirstAnswer.{first}
use Rattle.rv_cube.specs.Reduction.{at, carrying, standing, first_step, repeated}

-- the value has the bit of each entry that isn't free
abbrev pub IsRight : TwoLevel → List Cube → Type 0
IsRight pla cubes = (word : List Bool) → length word ≡ pla.inputs → IsAllowed pla word (has (esop_value cubes word))

-- ---- an output is dropped

-- the entry of an output is free at the input word with a number, where the cube matches it
abbrev pub free_where : TwoLevel → Cube → ℕ → ℕ → Bool
free_where pla cube output x =
    not (matches cube (word_of pla.inputs x)) || is_dont_care (entry pla (word_of pla.inputs x) output)

-- the cube carries the output, whose entry is free at every input word that the cube matches
unfoldable pub is_idle : TwoLevel → Cube → ℕ → Bool
is_idle pla cube output = has cube.outs output && all_below (free_where pla cube output) (2 ^ pla.inputs)

-- the cube without an output that it carries
abbrev pub output_dropped : Cube → ℕ → Cube
output_dropped cube output = record cube { outs = bit_xor cube.outs (2 ^ output) }

-- the list where the cube at a loses an output, and is gone where none is left
abbrev pub dropped : List Cube → ℕ → ℕ → List Cube
dropped cubes a output = standing cubes a (carrying (output_dropped (at cubes a) output))

abbrev pub dropping : TwoLevel → List Cube → ℕ → ℕ → Option (List Cube)
dropping pla cubes a output = if is_idle pla (at cubes a) output then Some (dropped cubes a output) else None

-- the least cube loses its least such output
abbrev pub first_drop : TwoLevel → List Cube → Option (List Cube)
first_drop pla cubes = first (λ a. first (dropping pla cubes a) 0 pla.outputs) 0 (length cubes)

-- ---- the reduced list

-- the list after the first step that applies: one that keeps the value, or else an output is dropped
unfoldable pub first_step_for : TwoLevel → List Cube → Option (List Cube)
first_step_for pla cubes = option_or (first_step pla.inputs cubes) (first_drop pla cubes)

-- no step applies
abbrev pub IsSettledFor : TwoLevel → List Cube → Type 0
IsSettledFor pla cubes = first_step_for pla cubes ≡ None

-- how many outputs, of so many, a cube carries
abbrev pub carried_count : ℕ → Cube → ℕ
carried_count outputs cube = count_by (has cube.outs) (range_with_len 0 outputs)

-- the number of cubes and the sum of their outputs
abbrev pub weight : ℕ → List Cube → ℕ
weight outputs cubes = length cubes + sum_by (carried_count outputs) cubes

-- no step is left, since each lowers the weight
abbrev pub reduced_for : TwoLevel → List Cube → List Cube
reduced_for pla cubes = repeated (first_step_for pla) (weight pla.outputs cubes) cubes
