-- The function of a PLA in which a free entry counts as 0.
use Rattle.std.specs.Prelude.{ℕ, ◌^◌, Bool, true, false, List, map}
use Rattle.std.specs.List.{range_with_len}
use Rattle.rv_gate.specs.Word.{number_of, word_of}
use Rattle.rv_pla.specs.Pla.{TwoLevel, entry}
use Rattle.rv_pla.specs.declared.entry.Entry.{Entry}
use Rattle.rv_pla.specs.declared.entry.Entry.TheVariants.{One, Zero, Free}

-- the bit of an entry
abbrev pub bit_for : Entry → Bool
bit_for One = true
bit_for Zero = false
bit_for Free = false

-- the output word of an input word
abbrev pub output_word : TwoLevel → List Bool → List Bool
output_word pla x = map (λ j. bit_for (entry pla x j)) (range_with_len 0 pla.outputs)

-- for each input word in ascending order, the number of its output word
unfoldable pub zeros : TwoLevel → List ℕ
zeros pla = map (λ x. number_of (output_word pla (word_of pla.inputs x))) (range_with_len 0 (2 ^ pla.inputs))
