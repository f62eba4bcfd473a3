-- The ring laws of Z[w] that amplitudes need.
use Rattle.std.proofs.Common.{◌≡◌, ℕ, zero, suc, ◌+◌, ◌*◌, ℤ, ◌+ℤ◌, ◌*ℤ◌, neg_ℤ, refl, arith, ap, ◌∙◌}
use Rattle.std.proofs.lemmas.Int.{ints}
use borrow.Author.Differences.{up, down, sum_is_lem, neg_is}
use Rattle.rv_net.specs.Cyclotomic.{Cyclotomic, nought, unity, root2, plus, times_w, times_w_power, times, power, doubled}

pub same_cyclotomic : (u v : Cyclotomic) → u.a ≡ v.a → u.b ≡ v.b → u.c ≡ v.c → u.d ≡ v.d → u ≡ v
same_cyclotomic u v p q r s = λ i. record { a = p i; b = q i; c = r i; d = s i }

pub plus_comm : (u v : Cyclotomic) → plus u v ≡ plus v u
unfolding plus
plus_comm u v = same_cyclotomic _ _ (omega (arith, ints)) (omega (arith, ints)) (omega (arith, ints)) (omega (arith, ints))

pub plus_assoc : (u v w : Cyclotomic) → plus (plus u v) w ≡ plus u (plus v w)
unfolding plus
plus_assoc u v w = same_cyclotomic _ _ (omega (arith, ints)) (omega (arith, ints)) (omega (arith, ints)) (omega (arith, ints))

pub plus_nought : (u : Cyclotomic) → plus u nought ≡ u
unfolding plus nought
plus_nought u = same_cyclotomic _ _ (omega (arith, ints)) (omega (arith, ints)) (omega (arith, ints)) (omega (arith, ints))

pub nought_plus : (u : Cyclotomic) → plus nought u ≡ u
unfolding plus nought
nought_plus u = same_cyclotomic _ _ (omega (arith, ints)) (omega (arith, ints)) (omega (arith, ints)) (omega (arith, ints))

-- sorts a sum of four
pub plus_swap : (p q r s : Cyclotomic) → plus (plus p q) (plus r s) ≡ plus (plus p r) (plus q s)
unfolding plus
plus_swap p q r s = same_cyclotomic _ _ (omega (arith, ints)) (omega (arith, ints)) (omega (arith, ints)) (omega (arith, ints))

pub times_w-add : (u v : Cyclotomic) → times_w (plus u v) ≡ plus (times_w u) (times_w v)
unfolding plus times_w
times_w-add u v = same_cyclotomic _ _ (omega (arith, ints)) refl refl refl

pub times_w_power-add : (p : ℕ) (u v : Cyclotomic) → times_w_power p (plus u v) ≡ plus (times_w_power p u) (times_w_power p v)
unfolding times_w_power
times_w_power-add zero u v = refl
times_w_power-add (suc p) u v = ap times_w (times_w_power-add p u v) ∙ times_w-add _ _

pub times_w-zero : times_w nought ≡ nought
unfolding times_w nought
times_w-zero = refl

pub times_w_power-zero : (p : ℕ) → times_w_power p nought ≡ nought
unfolding times_w_power
times_w_power-zero zero = refl
times_w_power-zero (suc p) = ap times_w (times_w_power-zero p) ∙ times_w-zero

-- the ring laws of ℤ that the library lacks
z_left : (x y z : ℤ) → x *ℤ (y +ℤ z) ≡ x *ℤ y +ℤ x *ℤ z
z_left x y z = omega (arith, ints, ap (λ n. up x * n) (sum_is_lem y z), ap (λ n. down x * n) (sum_is_lem y z))

z_right : (x y z : ℤ) → (y +ℤ z) *ℤ x ≡ y *ℤ x +ℤ z *ℤ x
z_right x y z = omega (arith, ints, ap (λ n. up x * n) (sum_is_lem y z), ap (λ n. down x * n) (sum_is_lem y z))

z_neg_left : (x y : ℤ) → neg_ℤ x *ℤ y ≡ neg_ℤ (x *ℤ y)
z_neg_left x y = omega (arith, ints, ap (λ n. n * up y) (neg_is x).0, ap (λ n. n * up y) (neg_is x).1, ap (λ n. n * down y) (neg_is x).0, ap (λ n. n * down y) (neg_is x).1)

pub w_eight : (u : Cyclotomic) → times_w_power 8 u ≡ u
unfolding times_w_power times_w
w_eight u = same_cyclotomic _ _ (omega (arith, ints)) (omega (arith, ints)) (omega (arith, ints)) (omega (arith, ints))

pub times-add_left : (u v w : Cyclotomic) → times u (plus v w) ≡ plus (times u v) (times u w)
unfolding times plus
times-add_left u v w = same_cyclotomic _ _ (simp z_left (omega (arith, ints))) (simp z_left (omega (arith, ints))) (simp z_left (omega (arith, ints))) (simp z_left (omega (arith, ints)))

pub times-add_right : (u v w : Cyclotomic) → times (plus v w) u ≡ plus (times v u) (times w u)
unfolding times plus
times-add_right u v w = same_cyclotomic _ _ (simp z_right (omega (arith, ints))) (simp z_right (omega (arith, ints))) (simp z_right (omega (arith, ints))) (simp z_right (omega (arith, ints)))

pub times_w-times : (u v : Cyclotomic) → times_w (times u v) ≡ times (times_w u) v
unfolding times times_w
times_w-times u v = same_cyclotomic _ _ (simp z_neg_left (omega (arith, ints))) (simp z_neg_left (omega (arith, ints))) (simp z_neg_left (omega (arith, ints))) (simp z_neg_left (omega (arith, ints)))

pub times_w_power-times : (p : ℕ) (u v : Cyclotomic) → times_w_power p (times u v) ≡ times (times_w_power p u) v
unfolding times_w_power
times_w_power-times zero u v = refl
times_w_power-times (suc p) u v = ap times_w (times_w_power-times p u v) ∙ times_w-times _ _

pub nought_times : (u : Cyclotomic) → times nought u ≡ nought
unfolding times nought
nought_times u = same_cyclotomic _ _ (omega (arith, ints)) (omega (arith, ints)) (omega (arith, ints)) (omega (arith, ints))

pub unity_times : (u : Cyclotomic) → times unity u ≡ u
unfolding times unity
unity_times u = same_cyclotomic _ _ (omega (arith, ints)) (omega (arith, ints)) (omega (arith, ints)) (omega (arith, ints))

pub root2_twice : (u : Cyclotomic) → times root2 (times root2 u) ≡ plus u u
unfolding times root2 plus
root2_twice u = same_cyclotomic _ _ (omega (arith, ints)) (omega (arith, ints)) (omega (arith, ints)) (omega (arith, ints))

-- ---- turned and doubled

turn_comm : (p : ℕ) (u : Cyclotomic) → times_w (times_w_power p u) ≡ times_w_power p (times_w u)
unfolding times_w_power
turn_comm zero u = refl
turn_comm (suc p) u = ap times_w (turn_comm p u)

pub turns_comm : (p q : ℕ) (u : Cyclotomic) → times_w_power p (times_w_power q u) ≡ times_w_power q (times_w_power p u)
unfolding times_w_power
turns_comm zero q u = refl
turns_comm (suc p) q u = ap times_w (turns_comm p q u) ∙ turn_comm q (times_w_power p u)

pub turns_add : (p q : ℕ) (u : Cyclotomic) → times_w_power p (times_w_power q u) ≡ times_w_power (p + q) u
unfolding times_w_power
turns_add zero q u = ap (λ n. times_w_power n u) (let e : q ≡ 0 + q = omega arith in e)
turns_add (suc p) q u = ap times_w (turns_add p q u) ∙ ap (λ n. times_w_power n u) (let e : suc (p + q) ≡ suc p + q = omega arith in e)

-- what is the same twice is the same once
pub halved : (u v : Cyclotomic) → plus u u ≡ plus v v → u ≡ v
unfolding plus
halved u v e = grind arith

pub doubled-none : (u : Cyclotomic) → doubled 0 u ≡ u
unfolding doubled
doubled-none u = refl

pub doubled-nought : (n : ℕ) → doubled n nought ≡ nought
unfolding doubled
doubled-nought zero = refl
doubled-nought (suc n) = ap (λ u. plus u u) (doubled-nought n) ∙ plus_nought nought

pub doubled-more : (m n : ℕ) (u : Cyclotomic) → doubled m (doubled n u) ≡ doubled (m + n) u
unfolding doubled
doubled-more zero n u = ap (λ k. doubled k u) (let e : n ≡ 0 + n = omega arith in e)
doubled-more (suc m) n u = ap (λ v. plus v v) (doubled-more m n u) ∙ ap (λ k. doubled k u) (let e : suc (m + n) ≡ suc m + n = omega arith in e)

pub doubled-add : (m : ℕ) (u v : Cyclotomic) → doubled m (plus u v) ≡ plus (doubled m u) (doubled m v)
unfolding doubled
doubled-add zero u v = refl
doubled-add (suc m) u v = ap (λ w. plus w w) (doubled-add m u v) ∙ plus_swap _ _ _ _

pub doubled-power : (m p : ℕ) (u : Cyclotomic) → times_w_power p (doubled m u) ≡ doubled m (times_w_power p u)
unfolding doubled
doubled-power zero p u = refl
doubled-power (suc m) p u = times_w_power-add p _ _ ∙ ap (λ w. plus w w) (doubled-power m p u)

-- the root of two, so often twice
pub doubled-unity : (n : ℕ) → power root2 (2 * n) ≡ doubled n unity
unfolding power doubled
doubled-unity zero = refl
doubled-unity (suc n) = ap (power root2) (let e : 2 * suc n ≡ suc (suc (2 * n)) = omega arith in e) ∙ root2_twice _ ∙ ap (λ u. plus u u) (doubled-unity n)
