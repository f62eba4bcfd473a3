-- Words and their answers, computed from the definitions. Lines 0, 1 and 2 are a, b and c.
use Rattle.std.proofs.Common.{◌≡◌, true, false, [], ◌∷◌, codes, refl, Some, None}
use Rattle.rv_gate.specs.Circuit.{Cascade, fresh}
use Rattle.rv_gate.specs.Gate.{holds}
use Rattle.rv_gate.specs.Marks.{with_constants, without_garbage}
use Rattle.rv_gate.specs.declared.circuit.Mark.TheVariants.{Input, Zero, One}
use Rattle.rv_gate.specs.declared.gate.Shape.TheVariants.{Swap, Peres}
use Rattle.rv_simulate.specs.Simulation.{answers_of, first_wrong}

-- a Peres gate, and then the exchange of b and c under a
abbrev peres_swap : Cascade
peres_swap = record (fresh (codes "a" ∷ codes "b" ∷ codes "c" ∷ [])) { gates = Peres 0 1 2 ∷ Swap 1 1 1 2 ∷ [] }

two_words : (answers_of peres_swap false (codes "100\n110\n") ≡ codes "101\n110\n") × (first_wrong peres_swap false (codes "100\n110\n") ≡ None)
unfolding holds with_constants without_garbage
two_words = (refl, refl)

blanks_comment_and_unended_line : (answers_of peres_swap false (codes " 1 0 0 # c\n\n110") ≡ codes "101\n110\n") × (first_wrong peres_swap false (codes " 1 0 0 # c\n\n110") ≡ None)
unfolding holds with_constants without_garbage
blanks_comment_and_unended_line = (refl, refl)

too_few_bits : (answers_of peres_swap false (codes "100\n11\n110\n") ≡ codes "101\n") × (first_wrong peres_swap false (codes "100\n11\n110\n") ≡ Some 2)
unfolding holds with_constants without_garbage
too_few_bits = (refl, refl)

skipped_lines_count : first_wrong peres_swap false (codes "# c\n\n1\"0\"0\n") ≡ Some 3
skipped_lines_count = refl

-- one line, whose output is garbage
abbrev no_output : Cascade
no_output = record (fresh (codes "a" ∷ [])) { garbage = true ∷ [] }

answer_without_bits : (answers_of no_output false (codes "1\n") ≡ codes "\n") × (answers_of no_output true (codes "1\n") ≡ codes "1\n")
unfolding holds with_constants without_garbage
answer_without_bits = (refl, refl)

-- a full adder: the sum and the carry of a, b and c, with d at 0
abbrev full_adder : Cascade
full_adder =
    record (fresh (codes "a" ∷ codes "b" ∷ codes "c" ∷ codes "d" ∷ [])) {
      constants = Input ∷ Input ∷ Input ∷ Zero ∷ [];
      garbage = true ∷ true ∷ false ∷ false ∷ [];
      gates = Peres 0 1 3 ∷ Peres 1 2 3 ∷ [];
    }

sums_and_carries : (answers_of full_adder false (codes "111\n011\n") ≡ codes "11\n01\n") × (answers_of full_adder true (codes "1110\n") ≡ codes "1011\n")
unfolding with_constants without_garbage
sums_and_carries = (refl, refl)

-- no line takes a bit
abbrev all_constant : Cascade
all_constant = record (fresh (codes "a" ∷ codes "b" ∷ [])) { constants = One ∷ Zero ∷ [] }

every_bit_is_wrong : (first_wrong all_constant false (codes "\n1\n") ≡ Some 2) × (answers_of all_constant true (codes "01\n") ≡ codes "01\n")
unfolding holds with_constants without_garbage
every_bit_is_wrong = (refl, refl)
