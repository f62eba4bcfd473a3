-- Sums over all words, bit by bit.
use Rattle.std.proofs.Common.{◌≡◌, ◌≢◌, ℕ, zero, suc, ◌<◌, ◌&&◌, Bool, true, false, cond, [], ◌∷◌, length, set, refl, sym, ap, ap₂, ◌∙◌, arith, length-set, get_or-set_same, get_or-set_other}
use Rattle.std.proofs.lemmas.Int.{ints}
use Rattle.rv_gate.specs.Gate.{xor}
use Rattle.rv_net.specs.Amplitude.{sum_over_words}
use Rattle.rv_net.specs.Cyclotomic.{Cyclotomic, doubled, nought, plus, root2, times, times_w, times_w_power}
use Rattle.rv_net.proofs.Cyclotomic.{same_cyclotomic, plus_swap, plus_nought, nought_plus, times-add_left, halved}
use Rattle.rv_net.proofs.Step.{Word, bit}

pub same_sum : (n : ℕ) (f g : Word → Cyclotomic) → ((v : Word) → length v ≡ n → f v ≡ g v) → sum_over_words n f ≡ sum_over_words n g
unfolding sum_over_words
same_sum zero f g h = h [] refl
same_sum (suc n) f g h =
    ap₂ plus (same_sum n _ _ (λ v e. h (false ∷ v) (ap suc e))) (same_sum n _ _ (λ v e. h (true ∷ v) (ap suc e)))

pub sum_plus : (n : ℕ) (f g : Word → Cyclotomic)
    → plus (sum_over_words n f) (sum_over_words n g) ≡ sum_over_words n (λ v. plus (f v) (g v))
unfolding sum_over_words
sum_plus zero f g = refl
sum_plus (suc n) f g = plus_swap _ _ _ _ ∙ ap₂ plus (sum_plus n _ _) (sum_plus n _ _)

pub sum_times : (n : ℕ) (u : Cyclotomic) (f : Word → Cyclotomic) → sum_over_words n (λ v. times u (f v)) ≡ times u (sum_over_words n f)
unfolding sum_over_words
sum_times zero u f = refl
sum_times (suc n) u f = ap₂ plus (sum_times n u _) (sum_times n u _) ∙ sym (times-add_left u _ _)

pub sum_constant : (n : ℕ) (u : Cyclotomic) → sum_over_words n (λ v. u) ≡ doubled n u
unfolding sum_over_words doubled
sum_constant zero u = refl
sum_constant (suc n) u = ap₂ plus (sum_constant n u) (sum_constant n u)

-- twice a sum, by the values of one bit
pub sum_set : (n y : ℕ) (f : Word → Cyclotomic) → y < n
    → plus (sum_over_words n f) (sum_over_words n f) ≡ sum_over_words n (λ v. plus (f (set v y false)) (f (set v y true)))
unfolding sum_over_words
sum_set zero y f lt = absurd (omega arith)
sum_set (suc n) zero f lt =
    let whole = sum_plus n (λ v. f (false ∷ v)) (λ v. f (true ∷ v)) in
    ap₂ plus whole whole
sum_set (suc n) (suc y) f lt =
    plus_swap _ _ _ _
    ∙ ap₂ plus (sum_set n y (λ v. f (false ∷ v)) (omega arith)) (sum_set n y (λ v. f (true ∷ v)) (omega arith))

-- ---- HH: of a bit y that stands only in 4 y (z + q), with z another bit and q over further ones, the terms are those
-- with z = q, twice.

-- both values of y
both : (t : Bool) (u : Cyclotomic)
    → plus (times_w_power (cond (false && t) 4 0) u) (times_w_power (cond (true && t) 4 0) u) ≡ cond t nought (plus u u)
unfolding plus times_w_power times_w nought
both true u = same_cyclotomic _ _ (omega (arith, ints)) (omega (arith, ints)) (omega (arith, ints)) (omega (arith, ints))
both false u = refl

-- both values of z
either : (q : Bool) (g : Bool → Cyclotomic) → plus (cond (xor false q) nought (plus (g false) (g false))) (cond (xor true q) nought (plus (g true) (g true))) ≡ plus (g q) (g q)
either true g = nought_plus _
either false g = plus_nought _

times_same : (s s2 t t2 : Bool) (u u2 : Cyclotomic) → s ≡ s2 → t ≡ t2 → u ≡ u2
    → times_w_power (cond (s && t) 4 0) u ≡ times_w_power (cond (s2 && t2) 4 0) u2
times_same s s2 t t2 u u2 es et eu = cc

-- nothing changes with the bit
abbrev pub Lacks : {A : Type 0} → ℕ → ℕ → (Word → A) → Type 0
Lacks n y f = (v : Word) (b : Bool) → length v ≡ n → f (set v y b) ≡ f v

pub join : (n y z : ℕ) (f g : Word → Cyclotomic) (q : Word → Bool) → y < n → z < n → y ≢ z
    → Lacks n y g → Lacks n y q → Lacks n z q
    → ((v : Word) → length v ≡ n → f v ≡ times_w_power (cond (bit v y && xor (bit v z) (q v)) 4 0) (g v))
    → plus (sum_over_words n f) (sum_over_words n f) ≡ sum_over_words n (λ v. g (set v z (q v)))
join n y z f g q ly lz apart gy qy qz is =
    let m : Word → Cyclotomic = λ v. cond (xor (bit v z) (q v)) nought (plus (g v) (g v)) in
    let whole : Word → Cyclotomic = λ v. g (set v z (q v)) in
    let at_y : (v : Word) (b : Bool) → length v ≡ n → f (set v y b) ≡ times_w_power (cond (b && xor (bit v z) (q v)) 4 0) (g v) = λ v b e.
    is (set v y b) (length-set v y b ∙ e)
    ∙ times_same (bit (set v y b) y) b (xor (bit (set v y b) z) (q (set v y b))) (xor (bit v z) (q v)) (g (set v y b)) (g v)
    (get_or-set_same v y b false (omega arith))
    (ap₂ xor (get_or-set_other v y z b false (λ same. apart (sym same))) (qy v b e)) (gy v b e) in
    let at_z : (v : Word) (b : Bool) → length v ≡ n → m (set v z b) ≡ cond (xor b (q v)) nought (plus (g (set v z b)) (g (set v z b))) = λ v b e.
    ap₂ (λ s t. cond (xor s t) nought (plus (g (set v z b)) (g (set v z b)))) (get_or-set_same v z b false (omega arith)) (qz v b e) in
    let first : plus (sum_over_words n f) (sum_over_words n f) ≡ sum_over_words n m =
    sum_set n y f ly ∙ same_sum n _ m (λ v e. ap₂ plus (at_y v false e) (at_y v true e) ∙ both (xor (bit v z) (q v)) (g v)) in
    let second : plus (sum_over_words n m) (sum_over_words n m) ≡ plus (sum_over_words n whole) (sum_over_words n whole) =
    sum_set n z m lz
    ∙ same_sum n _ (λ v. plus (whole v) (whole v)) (λ v e. ap₂ plus (at_z v false e) (at_z v true e) ∙ either (q v) (λ b. g (set v z b)))
    ∙ sym (sum_plus n whole whole) in
    first ∙ halved _ _ second

-- ---- omega: a bit y that stands only in 2 y + 4 y q brings the root of two, and w^(1 - 2 q)

two : (q : Bool) (u : Cyclotomic)
    → plus (times_w_power (cond false (cond q 6 2) 0) u) (times_w_power (cond true (cond q 6 2) 0) u) ≡ times root2 (times_w_power (cond q 7 1) u)
unfolding plus times root2 times_w_power times_w
two true u = same_cyclotomic _ _ (omega (arith, ints)) (omega (arith, ints)) (omega (arith, ints)) (omega (arith, ints))
two false u = same_cyclotomic _ _ (omega (arith, ints)) (omega (arith, ints)) (omega (arith, ints)) (omega (arith, ints))

pub turn_half : (n y : ℕ) (f g : Word → Cyclotomic) (q : Word → Bool) → y < n → Lacks n y g → Lacks n y q
    → ((v : Word) → length v ≡ n → f v ≡ times_w_power (cond (bit v y) (cond (q v) 6 2) 0) (g v))
    → plus (sum_over_words n f) (sum_over_words n f) ≡ times root2 (sum_over_words n (λ v. times_w_power (cond (q v) 7 1) (g v)))
turn_half n y f g q ly gy qy is =
    let at : (v : Word) (b : Bool) → length v ≡ n → f (set v y b) ≡ times_w_power (cond b (cond (q v) 6 2) 0) (g v) = λ v b e.
    is (set v y b) (length-set v y b ∙ e)
    ∙ ap₂ (λ s t. times_w_power (cond s (cond t 6 2) 0) (g (set v y b))) (get_or-set_same v y b false (omega arith)) (qy v b e)
    ∙ ap (times_w_power (cond b (cond (q v) 6 2) 0)) (gy v b e) in
    sum_set n y f ly
    ∙ same_sum n _ _ (λ v e. ap₂ plus (at v false e) (at v true e) ∙ two (q v) (g v))
    ∙ sum_times n root2 _
