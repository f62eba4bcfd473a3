-- When two words are the same.
use Rattle.std.proofs.Common.{◌≡◌, ◌≢◌, Bool, true, false, List, [], ◌∷◌, refl, sym, ◌∙◌, ap, ap₂}
use Rattle.std.proofs.lemmas.Bool.{and_parts, false≢true, false_from_ne_true}
use Rattle.rv_gate.specs.Gate.{same, same_word}
use Rattle.rv_gate.proofs.Bits.{same_true}

pub same_word-same : (x : List Bool) → same_word x x ≡ true
same_word-same [] = refl
same_word-same (true ∷ x) = same_word-same x
same_word-same (false ∷ x) = same_word-same x

pub same_word-is : (x y : List Bool) → same_word x y ≡ true → x ≡ y
same_word-is [] [] e = refl
same_word-is [] (b ∷ y) e = absurd (false≢true e)
same_word-is (a ∷ x) [] e = absurd (false≢true e)
same_word-is (a ∷ x) (b ∷ y) e =
    let both = and_parts (same a b) (same_word x y) e in
    ap₂ (λ c z. c ∷ z) (same_true a b both.0) (same_word-is x y both.1)

pub same_word-true : (x y : List Bool) → x ≡ y → same_word x y ≡ true
same_word-true x y e = ap (same_word x) (sym e) ∙ same_word-same x

pub same_word-false : (x y : List Bool) → x ≢ y → same_word x y ≡ false
same_word-false x y ne = false_from_ne_true (same_word x y) (λ e. ne (same_word-is x y e))
