-- The table of lists that are a permutation, and the first fault of lists that are none.
use Rattle.std.proofs.Common.{◌≡◌, [], ◌∷◌, Ok, Err, refl}
use Rattle.rv_perm.specs.declared.fault.PermFault.TheVariants.{Length, OutOfRange, Repeated}
use Rattle.rv_reader.specs.FirstFault.{first_below}
use Rattle.rv_perm.specs.Perm.{lines_up_to, preimage_of, place_fault, images_checked, table_on, table_of}

exchange : table_of (1 ∷ 0 ∷ []) ≡ Ok (record { lines = 1; images = 1 ∷ 0 ∷ [] })
unfolding lines_up_to preimage_of place_fault first_below images_checked table_on
exchange = refl

two_lines : table_of (0 ∷ 3 ∷ 1 ∷ 2 ∷ []) ≡ Ok (record { lines = 2; images = 0 ∷ 3 ∷ 1 ∷ 2 ∷ [] })
unfolding lines_up_to preimage_of place_fault first_below images_checked table_on
two_lines = refl

a_number_twice : table_of (0 ∷ 1 ∷ 1 ∷ 2 ∷ []) ≡ Err (Repeated 1 2)
unfolding lines_up_to preimage_of place_fault first_below images_checked table_on
a_number_twice = refl

count_of_three : table_of (0 ∷ 1 ∷ 2 ∷ []) ≡ Err (Length 3)
unfolding lines_up_to preimage_of place_fault first_below images_checked table_on
count_of_three = refl

out_of_range : table_of (0 ∷ 4 ∷ 1 ∷ 2 ∷ []) ≡ Err (OutOfRange 1)
unfolding lines_up_to preimage_of place_fault first_below images_checked table_on
out_of_range = refl

the_least_place_decides : table_of (0 ∷ 2 ∷ 2 ∷ 4 ∷ []) ≡ Err (Repeated 1 2)
unfolding lines_up_to preimage_of place_fault first_below images_checked table_on
the_least_place_decides = refl

a_number_out_of_range_twice : table_of (4 ∷ 4 ∷ 1 ∷ 2 ∷ []) ≡ Err (OutOfRange 0)
unfolding lines_up_to preimage_of place_fault first_below images_checked table_on
a_number_out_of_range_twice = refl

a_number_three_times : table_of (1 ∷ 1 ∷ 1 ∷ 0 ∷ []) ≡ Err (Repeated 0 1)
unfolding lines_up_to preimage_of place_fault first_below images_checked table_on
a_number_three_times = refl

one_word : table_of (0 ∷ []) ≡ Err (Length 1)
unfolding lines_up_to preimage_of place_fault first_below images_checked table_on
one_word = refl

no_number : table_of [] ≡ Err (Length 0)
unfolding lines_up_to preimage_of place_fault first_below images_checked table_on
no_number = refl
