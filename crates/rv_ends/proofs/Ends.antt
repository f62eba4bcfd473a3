-- Sums over paths, bit by bit.
use Rattle.std.proofs.Common.{◌≡◌, ℕ, zero, suc, ◌+◌, ◌-◌, ◌%◌, ◌<◌, ◌≤◌, ◌&&◌, ℤ, pos, negsuc, Bool, true, false, not, cond, List, [], ◌∷◌, ◌++◌, length, take, drop, set, get_or, refl, sym, ap, ap₂, ◌∙◌, arith}
use mathlib.Core.Bool.{beq}
use Rattle.std.specs.Prelude.{Option, Some, None, IfSome}
use Rattle.std.proofs.lemmas.List.{take_more, take_rest}
use Rattle.std.proofs.Math.Seq.{take-length}
use Rattle.rv_gate.specs.Gate.{same, same_word, xor}
use Rattle.rv_net.specs.Amplitude.{sum_over_words}
use Rattle.rv_net.specs.Cyclotomic.{Cyclotomic, doubled, nought, plus, unity, times_w, times_w_power}
use Rattle.rv_net.proofs.Cyclotomic.{plus_swap, doubled-add, times_w_power-zero}
use Rattle.rv_terms.specs.Products.{odd, value, parity, always}
use Rattle.rv_terms.specs.declared.product.Product.{Product}
use Rattle.rv_terms.proofs.Puts.{single}
use Rattle.rv_terms.specs.Phases.{power}
use Rattle.rv_terms.specs.declared.phases.Phases.{Phases}
use Rattle.rv_terms.specs.declared.sum.Sum.{Sum}
use Rattle.rv_ends.specs.Ends.{amount, word_at, path_value, over_all}
use Rattle.rv_ends.specs.declared.amount.Amount.{Amount}

abbrev pub Word : Type 0
Word = List Bool

pub same_sum : (n : ℕ) (f g : Word → Cyclotomic) → ((v : Word) → length v ≡ n → f v ≡ g v) → sum_over_words n f ≡ sum_over_words n g
unfolding sum_over_words
same_sum zero f g h = h [] refl
same_sum (suc n) f g h =
    ap₂ plus (same_sum n _ _ (λ v e. h (false ∷ v) (ap suc e))) (same_sum n _ _ (λ v e. h (true ∷ v) (ap suc e)))

pub sum_plus : (n : ℕ) (f g : Word → Cyclotomic)
    → plus (sum_over_words n f) (sum_over_words n g) ≡ sum_over_words n (λ v. plus (f v) (g v))
unfolding sum_over_words
sum_plus zero f g = refl
sum_plus (suc n) f g = plus_swap _ _ _ _ ∙ ap₂ plus (sum_plus n _ _) (sum_plus n _ _)

pub sum_constant : (n : ℕ) (u : Cyclotomic) → sum_over_words n (λ v. u) ≡ doubled n u
unfolding sum_over_words doubled
sum_constant zero u = refl
sum_constant (suc n) u = ap₂ plus (sum_constant n u) (sum_constant n u)

-- twice a sum, by the values of one bit
pub sum_set : (n y : ℕ) (f : Word → Cyclotomic) → y < n
    → plus (sum_over_words n f) (sum_over_words n f) ≡ sum_over_words n (λ v. plus (f (set v y false)) (f (set v y true)))
unfolding sum_over_words
sum_set zero y f lt = absurd (omega arith)
sum_set (suc n) zero f lt =
    let whole = sum_plus n (λ v. f (false ∷ v)) (λ v. f (true ∷ v)) in
    ap₂ plus whole whole
sum_set (suc n) (suc y) f lt =
    plus_swap _ _ _ _
    ∙ ap₂ plus (sum_set n y (λ v. f (false ∷ v)) (omega arith)) (sum_set n y (λ v. f (true ∷ v)) (omega arith))

doubled-suc : (k : ℕ) (u : Cyclotomic) → doubled (suc k) u ≡ doubled k (plus u u)
unfolding doubled
doubled-suc k u = sym (doubled-add k u u)

-- the values of both halves
pub both_halves : (k y : ℕ) (f : Word → Cyclotomic) (low high whole : Cyclotomic) → y < 64
    → doubled k (sum_over_words 64 (λ v. f (set v y false))) ≡ doubled 64 low
    → doubled k (sum_over_words 64 (λ v. f (set v y true))) ≡ doubled 64 high
    → whole ≡ plus low high
    → doubled (suc k) (sum_over_words 64 f) ≡ doubled 64 whole
both_halves k y f low high whole lt is_low is_high sum =
    doubled-suc k (sum_over_words 64 f)
    ∙ ap (doubled k) (sum_set 64 y f lt ∙ sym (sum_plus 64 (λ v. f (set v y false)) (λ v. f (set v y true))))
    ∙ doubled-add k _ _
    ∙ ap₂ plus is_low is_high
    ∙ sym (doubled-add 64 low high)
    ∙ ap (doubled 64) (sym sum)

-- ---- where paths end

pub word_at-append : (a b : List Sum) (x v : Word) → word_at (a ++ b) x v ≡ word_at a x v ++ word_at b x v
word_at-append [] b x v = refl
word_at-append (s ∷ a) b x v = ap (λ w. odd s x v ∷ w) (word_at-append a b x v)

pub word_at-next : (a : List Sum) (s : Sum) (i : ℕ) (x v : Word) → i < length a → s ≡ get_or a i s
    → word_at (take (i + 1) a) x v ≡ word_at (take i a) x v ++ odd s x v ∷ []
word_at-next a s i x v lt here =
    ap (λ t. word_at t x v) (take_more a i s lt ∙ ap (λ t. take i a ++ t ∷ []) (sym here)) ∙ word_at-append (take i a) (s ∷ []) x v

pub word_at_all : (a : List Sum) (n : ℕ) (x v : Word) → length a ≤ n → n ≤ length a → word_at (take n a) x v ≡ word_at a x v
word_at_all a n x v le ge =
    let e : n ≡ length a = omega arith in
    ap (λ k. word_at (take k a) x v) e ∙ ap (λ t. word_at t x v) (take-length a)

-- ---- words that are the same

same_at : (a b : Bool) → a ≡ b → same a b ≡ true
same_at true b e = sym e
same_at false b e = ap not (sym e)

pub same_all : (a b : Word) → length a ≡ length b → ((k : ℕ) → k < length a → get_or a k false ≡ get_or b k false)
    → same_word a b ≡ true
same_all [] [] len each = refl
same_all [] (d ∷ b) len each = absurd (omega arith)
same_all (c ∷ a) [] len each = absurd (omega arith)
same_all (c ∷ a) (d ∷ b) len each =
    ap (λ t. t && same_word a b) (same_at c d (each 0 (omega arith)))
    ∙ same_all a b (omega arith) (λ k lt. each (suc k) (omega arith))

differ : (a b : Bool) → (a ≡ b → ⊥) → same a b ≡ false
differ true true ne = absurd (ne refl)
differ true false ne = refl
differ false true ne = refl
differ false false ne = absurd (ne refl)

and_false : (a : Bool) → (a && false) ≡ false
and_false a = grind arith

pub differs_at : (a b : Word) (k : ℕ) → k < length a → k < length b → (get_or a k false ≡ get_or b k false → ⊥) → same_word a b ≡ false
differs_at [] b k la lb ne = absurd (omega arith)
differs_at (c ∷ a) [] k la lb ne = absurd (omega arith)
differs_at (c ∷ a) (d ∷ b) zero la lb ne = ap (λ t. t && same_word a b) (differ c d ne)
differs_at (c ∷ a) (d ∷ b) (suc k) la lb ne =
    ap (λ t. same c d && t) (differs_at a b k (omega arith) (omega arith) ne) ∙ and_false (same c d)

pub differs_long : (a b : Word) → (length a ≡ length b → ⊥) → same_word a b ≡ false
differs_long [] [] ne = absurd (ne refl)
differs_long [] (d ∷ b) ne = refl
differs_long (c ∷ a) [] ne = refl
differs_long (c ∷ a) (d ∷ b) ne =
    ap (λ t. same c d && t) (differs_long a b (λ e. ne (ap suc e))) ∙ and_false (same c d)

-- ---- a sum that is the same on all paths

pub constant_sum : (sums : List Sum) (phases : Phases) (x z word : Word) (turns : ℕ) (e : Cyclotomic)
    → ((v : Word) → word_at sums x v ≡ word) → ((v : Word) → power phases x v ≡ turns)
    → times_w_power turns (cond (same_word word z) unity nought) ≡ e
    → over_all sums phases x z ≡ doubled 64 e
constant_sum sums phases x z word turns e ends phase is =
    same_sum 64 (path_value sums phases x z) (λ v. e) (λ v len.
    ap (λ p. times_w_power p (cond (same_word (word_at sums x v) z) unity nought)) (phase v)
    ∙ ap (λ w. times_w_power turns (cond (same_word w z) unity nought)) (ends v)
    ∙ is)
    ∙ sum_constant 64 e

-- phases that are nothing with so much more
pub phase_is : (p k : ℕ) → p < 8 → k < 8 → (p + (8 - k)) % 8 ≡ 0 → p ≡ k
phase_is p k lp lk e = omega arith

-- ---- powers of w

abbrev pub turn : ℤ → ℤ → ℤ → ℤ → Amount
turn a b c d = record { a = a; b = b; c = c; d = d }

abbrev pub turns : List Amount
turns =
    turn (pos 1) (pos 0) (pos 0) (pos 0) ∷ turn (pos 0) (pos 1) (pos 0) (pos 0) ∷ turn (pos 0) (pos 0) (pos 1) (pos 0)
    ∷ turn (pos 0) (pos 0) (pos 0) (pos 1) ∷ turn (negsuc 0) (pos 0) (pos 0) (pos 0) ∷ turn (pos 0) (negsuc 0) (pos 0) (pos 0)
    ∷ turn (pos 0) (pos 0) (negsuc 0) (pos 0) ∷ turn (pos 0) (pos 0) (pos 0) (negsuc 0) ∷ []

pub turn_at : (t : ℕ) → t < 8 → amount (get_or turns t (turn (pos 0) (pos 0) (pos 0) (pos 0))) ≡ times_w_power t unity
unfolding times_w_power times_w unity
turn_at zero lt = refl
turn_at (suc zero) lt = refl
turn_at (suc (suc zero)) lt = refl
turn_at (suc (suc (suc zero))) lt = refl
turn_at (suc (suc (suc (suc zero)))) lt = refl
turn_at (suc (suc (suc (suc (suc zero))))) lt = refl
turn_at (suc (suc (suc (suc (suc (suc zero)))))) lt = refl
turn_at (suc (suc (suc (suc (suc (suc (suc zero))))))) lt = refl
turn_at (suc (suc (suc (suc (suc (suc (suc (suc t)))))))) lt = absurd (omega arith)

pub turned_nought : (t : ℕ) → times_w_power t nought ≡ amount (turn (pos 0) (pos 0) (pos 0) (pos 0))
unfolding nought
turned_nought t = times_w_power-zero t

-- ---- a sum of one product

pub only_one : (a : List Product) (x v : Word) → length a ≡ 1 → get_or a 0 always ≡ always → parity a x v ≡ true
only_one [] x v one is = absurd (omega arith)
only_one (p ∷ []) x v one is = ap (λ q. xor (value q x v) false) is ∙ single x v
only_one (p ∷ q ∷ a) x v one is = absurd (omega arith)

-- ---- a path bit that has a value

pub put_sum : (sums put : List Sum) (phases new : Phases) (x z : Word) (path : ℕ) (bit : Bool) (with : Word → Bool) → path < 64
    → ((v : Word) → with v ≡ bit)
    → ((v : Word) → path < length v → word_at put x v ≡ word_at sums x (set v path (with v)))
    → ((v : Word) → path < length v → power new x v ≡ power phases x (set v path (with v)))
    → over_all put new x z ≡ sum_over_words 64 (λ v. path_value sums phases x z (set v path bit))
put_sum sums put phases new x z path bit with lt is ends phase =
    same_sum 64 (path_value put new x z) (λ v. path_value sums phases x z (set v path bit)) (λ v len.
    ap (λ p. times_w_power p (cond (same_word (word_at put x v) z) unity nought)) (phase v (omega arith))
    ∙ ap (λ w. times_w_power (power phases x (set v path (with v))) (cond (same_word w z) unity nought)) (ends v (omega arith))
    ∙ ap (λ b. path_value sums phases x z (set v path b)) (is v))

-- ---- what is answered

pub apart_bits : (a b : Bool) → not (beq a b) ≡ true → a ≡ b → ⊥
apart_bits true true h e = cc
apart_bits true false h e = cc
apart_bits false true h e = cc
apart_bits false false h e = cc

pub weaker : (o : Option Amount) (P Q : Amount → Type 0) → ((e : Amount) → P e → Q e) → IfSome o P → IfSome o Q
weaker None P Q f h = tt
weaker (Some e) P Q f h = f e h

pub rest_length : (paths : List ℕ) → (length paths ≡ 0 → ⊥) → suc (length (take (length paths - 1) (drop 1 paths))) ≡ length paths
rest_length [] some = absurd (some refl)
rest_length (p ∷ paths) some = ap (λ t. suc (length t)) (take_rest (p ∷ paths) 1)
