-- Worked examples.
use Rattle.std.proofs.Common.{◌≡◌, ℕ, List, [], ◌∷◌, map, Result, Ok, Err, refl}
use Rattle.std.specs.List.{range_with_len}
use Rattle.std.specs.Prelude.{codes}
use Rattle.rv_gate.specs.Gate.{holds}
use Rattle.rv_gate.specs.Word.{ones_of, number_of, word_of}
use Rattle.rv_reader.specs.Feeding.{object_of}
use Rattle.rv_reader.specs.Rules.{whole_of}
use Rattle.rv_blif.specs.declared.fault.BlifFault.{BlifFault}
use Rattle.rv_blif.specs.declared.fault.BlifFault.TheVariants.{Text}
use Rattle.rv_blif.specs.Given.{directive_of, line_of, with_name}
use Rattle.rv_blif.specs.Line.{goes_on, is_dropped}
use Rattle.rv_blif.specs.Logic.{Logic, outputs_of, values}
use Rattle.rv_blif.specs.Reading.{logic_of}

abbrev at : ℕ → ℕ → Result Logic BlifFault
at line code = Err (Text (record { line = line; code = code }))

-- the numbers of the output words, for the input words of so many bits in ascending order
abbrev table : ℕ → Result Logic BlifFault → List ℕ
table n (Ok logic) = map (λ x. number_of (outputs_of logic (word_of n x))) (range_with_len 0 8)
table n (Err fault) = []

nothing_in_it : logic_of [] ≡ at 0 14
unfolding object_of whole_of
nothing_in_it = refl

off_cover : table 1 (logic_of (codes ".inputs a\n.outputs y\n.names a y\n1 0\n")) ≡ 1 ∷ 0 ∷ 1 ∷ 0 ∷ 1 ∷ 0 ∷ 1 ∷ 0 ∷ []
unfolding object_of whole_of line_of directive_of with_name goes_on ones_of holds values outputs_of number_of word_of is_dropped
off_cover = refl

-- a full adder, whose sum is written before the cover that it needs
full_adder : table 3
    (logic_of
    (codes ".inputs a b \\\nc\n.outputs s\n.outputs d\n.names p c s\n10 1\n01 1\n.names a b p\n10 1\n01 1\n.names a b c d\n11- 1\n1-1 1\n-11 1\n.end\n"))
    ≡ 0 ∷ 2 ∷ 2 ∷ 1 ∷ 2 ∷ 1 ∷ 1 ∷ 3 ∷ []
unfolding object_of whole_of line_of directive_of with_name goes_on ones_of holds values outputs_of number_of word_of is_dropped
full_adder = refl

driven_in_a_circle : logic_of (codes ".outputs y\n.names x y\n1 1\n.names y x\n1 1\n") ≡ at 2 16
unfolding object_of whole_of line_of directive_of with_name goes_on ones_of holds values outputs_of number_of word_of is_dropped
driven_in_a_circle = refl

-- a `\` with a blank behind it
cut_by_a_blank : logic_of (codes ".inputs a \\ \nb\n.outputs a\n") ≡ at 1 17
unfolding object_of whole_of line_of directive_of with_name goes_on is_dropped
cut_by_a_blank = refl

-- in a remark it is let through
cut_in_a_remark : table 1 (logic_of (codes ".inputs a\n.outputs a\n.attr src a\\ \n")) ≡ 0 ∷ 1 ∷ 0 ∷ 1 ∷ 0 ∷ 1 ∷ 0 ∷ 1 ∷ []
unfolding object_of whole_of line_of directive_of with_name goes_on ones_of holds values outputs_of number_of word_of is_dropped
cut_in_a_remark = refl
