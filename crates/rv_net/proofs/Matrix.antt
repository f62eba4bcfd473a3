-- Amplitudes multiply as matrices do.
use Rattle.std.proofs.Common.{arith}
use Rattle.std.proofs.Common.{◌≡◌, ℕ, zero, suc, true, false, List, [], ◌∷◌, ◌++◌, length, take, drop, refl, sym, ap, ap₂, ◌∙◌}
use Rattle.rv_net.specs.declared.op.Op.{Op}
use Rattle.rv_net.specs.Cyclotomic.{Cyclotomic, nought, plus, times}
use Rattle.rv_net.proofs.Step.{Word, step, amp, delta, same_amp}
use Rattle.rv_net.specs.Denotes.{IsProduct, IsProductAt}
use Rattle.std.proofs.lemmas.List.{take-append-drop}
use Rattle.rv_net.specs.Amplitude.{amplitude, sum_over_words}
use Rattle.rv_net.proofs.Cyclotomic.{plus_swap, times_w_power-add, times_w_power-times, times-add_right, nought_times, unity_times, plus_nought, nought_plus}
use Rattle.rv_net.proofs.Frame.{step-local}

pub sum_over_words-zero : (n : ℕ) → sum_over_words n (λ y. nought) ≡ nought
unfolding sum_over_words
sum_over_words-zero zero = refl
sum_over_words-zero (suc n) = ap₂ plus (sum_over_words-zero n) (sum_over_words-zero n) ∙ plus_nought nought

pub same_sum : (n : ℕ) (f g : Word → Cyclotomic) → ((y : Word) → f y ≡ g y) → sum_over_words n f ≡ sum_over_words n g
same_sum n f g h = λ i. sum_over_words n (λ y. h y i)

pub step-sum : (o : Op) (f g : Word → Cyclotomic) (x : Word) → step o (λ v. plus (f v) (g v)) x ≡ plus (step o f x) (step o g x)
step-sum o f g x = grind (arith, times_w_power-add, plus_swap)

pub step-scale : (o : Op) (f : Word → Cyclotomic) (u : Cyclotomic) (x : Word) → step o (λ v. times (f v) u) x ≡ times (step o f x) u
step-scale o f u x = grind (arith, times_w_power-times, times-add_right)

pub step-sum_over_words : (o : Op) (n : ℕ) (f : Word → Word → Cyclotomic) (x : Word) → step o (λ v. sum_over_words n (f v)) x ≡ sum_over_words n (λ y. step o (λ v. f v y) x)
unfolding sum_over_words
step-sum_over_words o zero f x = refl
step-sum_over_words o (suc n) f x =
    step-sum o (λ v. sum_over_words n (λ y. f v (false ∷ y))) (λ v. sum_over_words n (λ y. f v (true ∷ y))) x
    ∙ ap₂ plus (step-sum_over_words o n (λ v y. f v (false ∷ y)) x) (step-sum_over_words o n (λ v y. f v (true ∷ y)) x)

pub sum_over_words-delta : (x : Word) (f : Word → Cyclotomic) → sum_over_words (length x) (λ y. times (delta x y) (f y)) ≡ f x
unfolding sum_over_words delta
sum_over_words-delta [] f = unity_times (f [])
sum_over_words-delta (false ∷ x) f =
    ap₂ plus (sum_over_words-delta x (λ y. f (false ∷ y))) (same_sum (length x) _ _ (λ y. nought_times (f (true ∷ y))) ∙ sum_over_words-zero (length x))
    ∙ plus_nought (f (false ∷ x))
sum_over_words-delta (true ∷ x) f =
    ap₂ plus (same_sum (length x) _ _ (λ y. nought_times (f (false ∷ y))) ∙ sum_over_words-zero (length x)) (sum_over_words-delta x (λ y. f (true ∷ y)))
    ∙ nought_plus (f (true ∷ x))

pub matrix_product : (m n : List Op) (x z : Word) → amp (m ++ n) x z ≡ sum_over_words (length x) (λ y. times (amp m x y) (amp n y z))
unfolding amp
matrix_product [] n x z = sym (sum_over_words-delta x (λ y. amp n y z))
matrix_product (o ∷ m) n x z =
    step-local o (λ v. amp (m ++ n) v z) (λ v. sum_over_words (length x) (λ y. times (amp m v y) (amp n y z))) x
    (λ v e. matrix_product m n v z ∙ ap (λ d. sum_over_words d (λ y. times (amp m v y) (amp n y z))) e)
    ∙ step-sum_over_words o (length x) (λ v y. times (amp m v y) (amp n y z)) x
    ∙ same_sum (length x) _ _ (λ y. step-scale o (λ v. amp m v y) (amp n y z) x)

-- the same of amplitudes
pub amplitude_product : (m n : List Op) (x z : Word) → amplitude (m ++ n) x z ≡ sum_over_words (length x) (λ y. times (amplitude m x y) (amplitude n y z))
amplitude_product m n x z =
    sym (same_amp (m ++ n) x z) ∙ matrix_product m n x z
    ∙ (λ i. sum_over_words (length x) (λ y. times (same_amp m x y i) (same_amp n y z i)))

pub product_appended : (ops m n : List Op) → ops ≡ m ++ n → IsProductAt ops m n
unfolding IsProductAt
product_appended ops m n is x z = ap (λ l. amplitude l x z) is ∙ amplitude_product m n x z

pub product_everywhere : (ops : List Op) → IsProduct ops
product_everywhere ops place = product_appended ops (take place ops) (drop place ops) (sym (take-append-drop place ops))
