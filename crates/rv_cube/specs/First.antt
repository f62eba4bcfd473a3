-- The first list of a PLA.
use Rattle.std.specs.Prelude.{ℕ, ◌^◌, Bool, if◌then◌else◌, List, map}
use Rattle.std.specs.List.{range_with_len}
use Rattle.rv_gate.specs.Word.{ones_of, word_of}
use Rattle.rv_pla.specs.declared.cube.Cube.{Cube}
use Rattle.rv_pla.specs.Pla.{TwoLevel, is_esop}
use Rattle.rv_pla.specs.Zeros.{output_word}
use Rattle.rv_cube.specs.Esop.{Esop, terms_of}
use Rattle.rv_cube.specs.ReedMuller.{reed_muller}

-- the set of the outputs that are 1 at a word
abbrev pub outputs_at : TwoLevel → List Bool → ℕ
outputs_at pla word = ones_of (output_word pla word)

-- these sets, by the numbers of the words
abbrev pub values_of : TwoLevel → List ℕ
values_of pla = map (λ x. outputs_at pla (word_of pla.inputs x)) (range_with_len 0 (2 ^ pla.inputs))

abbrev pub term_cubes : TwoLevel → List Cube
term_cubes pla = map (λ term. term.cube) pla.terms

-- the terms of an exclusive sum as they stand, and else the Reed-Muller form
abbrev pub first_cubes : TwoLevel → List Cube
first_cubes pla = if is_esop pla.kind then terms_of (term_cubes pla) else reed_muller pla.inputs (values_of pla)

abbrev pub first_of : TwoLevel → Esop
first_of pla = record { inputs = pla.inputs; outputs = pla.outputs; cubes = first_cubes pla }
