-- Amplitudes of operations before or after others that only double, or take the root of two.
use Rattle.std.proofs.Common.{◌≡◌, ℕ, zero, suc, true, false, List, [], ◌∷◌, ◌++◌, length, refl, sym, ap, ap₂, ◌∙◌}
use Rattle.std.proofs.lemmas.List.{append-nil}
use Rattle.rv_net.specs.declared.op.Op.{Op}
use Rattle.rv_net.specs.Amplitude.{amplitude, sum_over_words}
use Rattle.rv_net.specs.Cyclotomic.{Cyclotomic, doubled, plus, times}
use Rattle.rv_net.proofs.Cyclotomic.{doubled-add}
use Rattle.rv_net.proofs.Matrix.{amplitude_product}
use Rattle.rv_net.proofs.Step.{Word}
use Rattle.rv_sums.specs.inside.Paths.{rooted}
use Rattle.rv_alike.proofs.Roots.{rooted_sum, rooted_times, times_doubled}

-- what two sums add has to be the same at words of this length alone
pub sum_same : (n : ℕ) (f g : Word → Cyclotomic) → ((y : Word) → length y ≡ n → f y ≡ g y) → sum_over_words n f ≡ sum_over_words n g
unfolding sum_over_words
sum_same zero f g same = same [] refl
sum_same (suc n) f g same =
    ap₂ plus (sum_same n (λ v. f (false ∷ v)) (λ v. g (false ∷ v)) (λ y e. same (false ∷ y) (ap suc e)))
    (sum_same n (λ v. f (true ∷ v)) (λ v. g (true ∷ v)) (λ y e. same (true ∷ y) (ap suc e)))

pub sum_doubled : (n k : ℕ) (f : Word → Cyclotomic) → sum_over_words n (λ y. doubled k (f y)) ≡ doubled k (sum_over_words n f)
unfolding sum_over_words
sum_doubled zero k f = refl
sum_doubled (suc n) k f =
    ap₂ plus (sum_doubled n k (λ v. f (false ∷ v))) (sum_doubled n k (λ v. f (true ∷ v))) ∙ sym (doubled-add k _ _)

pub sum_rooted : (n d : ℕ) (f : Word → Cyclotomic) → sum_over_words n (λ y. rooted d (f y)) ≡ rooted d (sum_over_words n f)
unfolding sum_over_words
sum_rooted zero d f = refl
sum_rooted (suc n) d f =
    ap₂ plus (sum_rooted n d (λ v. f (false ∷ v))) (sum_rooted n d (λ v. f (true ∷ v))) ∙ sym (rooted_sum d _ _)

-- before operations that only double
pub before_doubling : (n k : ℕ) (ops last : List Op) → ((y z : Word) → length y ≡ n → amplitude last y z ≡ doubled k (amplitude [] y z))
    → (x z : Word) → length x ≡ n → amplitude (ops ++ last) x z ≡ doubled k (amplitude ops x z)
before_doubling n k ops last doubles x z e =
    amplitude_product ops last x z
    ∙ sum_same (length x) (λ y. times (amplitude ops x y) (amplitude last y z)) (λ y. doubled k (times (amplitude ops x y) (amplitude [] y z)))
    (λ y l. ap (times (amplitude ops x y)) (doubles y z (l ∙ e)) ∙ times_doubled k _ _)
    ∙ sum_doubled (length x) k (λ y. times (amplitude ops x y) (amplitude [] y z))
    ∙ ap (doubled k) (sym (amplitude_product ops [] x z) ∙ ap (λ l. amplitude l x z) (append-nil ops))

-- after operations that only take the root of two
pub after_rooting : (n d : ℕ) (first ops : List Op)
    → ((x y : Word) → length x ≡ n → length y ≡ n → amplitude first x y ≡ rooted d (amplitude [] x y))
    → (x z : Word) → length x ≡ n → amplitude (first ++ ops) x z ≡ rooted d (amplitude ops x z)
after_rooting n d first ops roots x z e =
    amplitude_product first ops x z
    ∙ sum_same (length x) (λ y. times (amplitude first x y) (amplitude ops y z)) (λ y. rooted d (times (amplitude [] x y) (amplitude ops y z)))
    (λ y l. ap (λ u. times u (amplitude ops y z)) (roots x y e (l ∙ e)) ∙ sym (rooted_times d _ _))
    ∙ sum_rooted (length x) d (λ y. times (amplitude [] x y) (amplitude ops y z))
    ∙ ap (rooted d) (sym (amplitude_product [] ops x z))

-- what is the same after roots of two stays so before any operations
pub rooted_before : (n c d : ℕ) (a b last : List Op) (x : Word) → length x ≡ n
    → ((y : Word) → length y ≡ n → rooted c (amplitude a x y) ≡ rooted d (amplitude b x y))
    → (z : Word) → rooted c (amplitude (a ++ last) x z) ≡ rooted d (amplitude (b ++ last) x z)
rooted_before n c d a b last x e same z =
    inside c a ∙ sum_same (length x) _ _ (λ y l. ap (λ u. times u (amplitude last y z)) (same y (l ∙ e))) ∙ sym (inside d b)
  where
    inside : (k : ℕ) (ops : List Op)
        → rooted k (amplitude (ops ++ last) x z) ≡ sum_over_words (length x) (λ y. times (rooted k (amplitude ops x y)) (amplitude last y z))
    inside k ops =
        ap (rooted k) (amplitude_product ops last x z) ∙ sym (sum_rooted (length x) k _) ∙ sum_same (length x) _ _ (λ y l. rooted_times k _ _)
