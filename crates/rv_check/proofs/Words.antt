-- Words that are the same.
use Rattle.rv_gate.proofs.Words.{same_word-true, same_word-false}
use Rattle.std.proofs.Common.{◌≡◌, ◌≢◌, eqb, eq-eqb, Bool, true, false, ◌&&◌, List, [], ◌∷◌, length, refl, ap, ap₂, arith}
use Rattle.std.proofs.lemmas.Bool.{eqb-true}
use Rattle.rv_gate.specs.Word.{ones_of}
use Rattle.rv_net.specs.Amplitude.{same_word}

-- words of one length with the same lines are the same
pub same_from_ones : (x y : List Bool) → length x ≡ length y → ones_of x ≡ ones_of y → x ≡ y
unfolding ones_of
same_from_ones [] [] h e = refl
same_from_ones (true ∷ x) (true ∷ y) h e = ap (λ l. true ∷ l) (same_from_ones x y (omega (arith, h)) (omega (arith, e)))
same_from_ones (true ∷ x) (false ∷ y) h e = absurd (omega (arith, e))
same_from_ones (false ∷ x) (true ∷ y) h e = absurd (omega (arith, e))
same_from_ones (false ∷ x) (false ∷ y) h e = ap (λ l. false ∷ l) (same_from_ones x y (omega (arith, h)) (omega (arith, e)))
same_from_ones o v h e = absurd (omega (arith, h))

-- the code's test of words
pub same_from_test : (x y : List Bool) → (eqb (length x) (length y) && eqb (ones_of x) (ones_of y)) ≡ true → x ≡ y
same_from_test x y e = grind (arith, ones_of, same_from_ones, eqb-true)

pub other_from_test : (x y : List Bool) → (eqb (length x) (length y) && eqb (ones_of x) (ones_of y)) ≡ false → x ≢ y
other_from_test x y e same = grind (arith, eq-eqb, ap₂)

pub same_word_test : (x y : List Bool) → (eqb (length x) (length y) && eqb (ones_of x) (ones_of y)) ≡ same_word x y
same_word_test x y = grind (arith, ones_of, same_word, same_word-true, same_from_test, same_word-false, other_from_test)
