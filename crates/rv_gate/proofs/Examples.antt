-- Gates and circuits on words, computed from the definitions. Lines 0, 1 and 2 are a, b and c.
use Rattle.std.proofs.Common.{◌≡◌, true, false, [], ◌∷◌, refl}
use Rattle.rv_gate.specs.Word.{number_of, word_of}
use Rattle.rv_gate.specs.Gate.{holds, act, run, run_on_number, inverse}
use Rattle.rv_gate.specs.declared.gate.Shape.TheVariants.{Flip, Swap, Peres}

-- the word 100 has the number 4
four : (number_of (true ∷ false ∷ false ∷ []) ≡ 4) × (word_of 3 4 ≡ true ∷ false ∷ false ∷ [])
unfolding number_of word_of
four = (refl, refl)

-- a Toffoli gate with the positive control a and the negative control b
mixed_controls : (act (Flip 3 1 2) (true ∷ false ∷ false ∷ []) ≡ true ∷ false ∷ true ∷ [])
    × (act (Flip 3 1 2) (true ∷ true ∷ false ∷ []) ≡ true ∷ true ∷ false ∷ [])
    × (act (Flip 3 1 2) (false ∷ false ∷ true ∷ []) ≡ false ∷ false ∷ true ∷ [])
unfolding holds
mixed_controls = (refl, refl, refl)

-- a NOT gate, with no control
inverted : act (Flip 0 0 0) (true ∷ false ∷ []) ≡ false ∷ false ∷ []
unfolding holds
inverted = refl

-- a Fredkin gate that exchanges b and c under a
exchanged_under : (act (Swap 1 1 1 2) (true ∷ true ∷ false ∷ []) ≡ true ∷ false ∷ true ∷ [])
    × (act (Swap 1 1 1 2) (false ∷ true ∷ false ∷ []) ≡ false ∷ true ∷ false ∷ [])
unfolding holds
exchanged_under = (refl, refl)

-- a Peres gate on all its inputs, in the order of their numbers
peres_table : (run_on_number (Peres 0 1 2 ∷ []) 3 4 ≡ 6) × (run_on_number (Peres 0 1 2 ∷ []) 3 5 ≡ 7)
    × (run_on_number (Peres 0 1 2 ∷ []) 3 6 ≡ 5) × (run_on_number (Peres 0 1 2 ∷ []) 3 7 ≡ 4)
unfolding number_of word_of
peres_table = (refl, refl, refl, refl)

-- a Peres gate, and then the exchange of b and c under a
in_order : (run (Peres 0 1 2 ∷ Swap 1 1 1 2 ∷ []) (true ∷ false ∷ false ∷ []) ≡ true ∷ false ∷ true ∷ [])
    × (run (Peres 0 1 2 ∷ Swap 1 1 1 2 ∷ []) (true ∷ true ∷ false ∷ []) ≡ true ∷ true ∷ false ∷ [])
unfolding holds
in_order = (refl, refl)

-- what undoes a Peres gate: b under a, then c under a and b
peres_inverse : inverse (Peres 0 1 2) ≡ Flip 1 1 1 ∷ Flip 3 3 2 ∷ []
peres_inverse = refl
