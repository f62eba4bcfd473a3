-- Texts with the permutations that they denote, or their first faults.
use Rattle.std.proofs.Common.{◌≡◌, true, false, [], ◌∷◌, Result, Ok, Err, ℕ, refl}
use Rattle.std.specs.Prelude.{codes}
use Rattle.rv_gate.specs.declared.circuit.Mark.TheVariants.{Input, Zero}
use Rattle.rv_perm.specs.declared.fault.PermFault.{PermFault}
use Rattle.rv_perm.specs.declared.fault.PermFault.TheVariants.{Text, Length, OutOfRange, Repeated}
use Rattle.rv_reader.specs.FirstFault.{first_below}
use Rattle.rv_perm.specs.Perm.{preimage_of, place_fault, lines_up_to, images_checked}
use Rattle.rv_perm.specs.Marked.{Marked}
use Rattle.rv_perm.specs.Reading.{permutation_of}

abbrev at : ℕ → ℕ → Result Marked PermFault
at line code = Err (Text (record { line = line; code = code }))

marked : permutation_of (codes ".constants -0\n.garbage 1-\n{0, 1, 2, 3} # same")
    ≡ Ok (record { table = record { lines = 2; images = 0 ∷ 1 ∷ 2 ∷ 3 ∷ [] }; constants = Input ∷ Zero ∷ []; garbage = true ∷ false ∷ [] })
unfolding permutation_of lines_up_to images_checked first_below place_fault preimage_of
marked = refl

unmarked : permutation_of (codes "\t[1],\r\n\n0#2") ≡ Ok (record { table = record { lines = 1; images = 1 ∷ 0 ∷ [] }; constants = Input ∷ []; garbage = false ∷ [] })
unfolding permutation_of lines_up_to images_checked first_below place_fault preimage_of
unmarked = refl

row_of_another_length : permutation_of (codes ".garbage 1\n0 1 2 3") ≡ at 1 4
unfolding permutation_of lines_up_to
row_of_another_length = refl

constants_first : permutation_of (codes ".garbage -\n.constants 01-\n0 4 4 4") ≡ at 2 4
unfolding permutation_of lines_up_to
constants_first = refl

length_before_rows : permutation_of (codes ".garbage 1\n0 1 2") ≡ Err (Length 3)
unfolding permutation_of lines_up_to
length_before_rows = refl

other_mark : permutation_of (codes ".garbage 0") ≡ at 1 4
unfolding permutation_of
other_mark = refl

directive_after_number : permutation_of (codes "0 1\n.constants -") ≡ at 2 3
unfolding permutation_of
directive_after_number = refl

second_directive : permutation_of (codes ".garbage\n.garbage 2") ≡ at 2 3
unfolding permutation_of
second_directive = refl

unknown_directive : permutation_of (codes "0\n.constants, -") ≡ at 2 2
unfolding permutation_of
unknown_directive = refl

directive_in_brackets : permutation_of (codes "{.constants -}") ≡ at 1 1
unfolding permutation_of
directive_in_brackets = refl

not_a_number : permutation_of (codes "0 x 1") ≡ at 1 1
unfolding permutation_of
not_a_number = refl

three_numbers : permutation_of (codes "0 1 2") ≡ Err (Length 3)
unfolding permutation_of lines_up_to
three_numbers = refl

no_number : permutation_of [] ≡ Err (Length 0)
unfolding permutation_of lines_up_to
no_number = refl

repeated : permutation_of (codes "0 1 1 2") ≡ Err (Repeated 1 2)
unfolding permutation_of lines_up_to images_checked first_below place_fault preimage_of
repeated = refl

out_of_range : permutation_of (codes "0 4 1 2") ≡ Err (OutOfRange 1)
unfolding permutation_of lines_up_to images_checked first_below place_fault preimage_of
out_of_range = refl

-- 2^64 is not 0
long_number : permutation_of (codes "18446744073709551616 00001") ≡ Err (OutOfRange 0)
unfolding permutation_of lines_up_to images_checked first_below place_fault preimage_of
long_number = refl
