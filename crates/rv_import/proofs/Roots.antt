-- Products with the root of two, so many times.
use Rattle.std.proofs.Common.{◌≡◌, ℕ, zero, suc, ◌+◌, refl, sym, ap, ap₂, ◌∙◌, arith}
use Rattle.std.proofs.lemmas.Int.{ints}
use Rattle.rv_net.specs.Cyclotomic.{Cyclotomic, negated, nought, plus, root2, times, times_w, times_w_power}
use Rattle.rv_net.proofs.Cyclotomic.{same_cyclotomic, times-add_left}
use Rattle.rv_angles.specs.Matrix.{entry_times}
use Rattle.rv_angles.specs.declared.matrix.Entry.{Entry}
use Rattle.rv_import.specs.Calls.{rooted}

root_w : (u : Cyclotomic) → times root2 (times_w u) ≡ times_w (times root2 u)
unfolding times root2 times_w
root_w u = same_cyclotomic _ _ (omega (arith, ints)) (omega (arith, ints)) (omega (arith, ints)) (omega (arith, ints))

root_negated : (u : Cyclotomic) → times root2 (negated u) ≡ negated (times root2 u)
unfolding times root2 negated
root_negated u = same_cyclotomic _ _ (omega (arith, ints)) (omega (arith, ints)) (omega (arith, ints)) (omega (arith, ints))

root_nought : times root2 nought ≡ nought
unfolding times root2 nought
root_nought = refl

root_power : (p : ℕ) (u : Cyclotomic) → times root2 (times_w_power p u) ≡ times_w_power p (times root2 u)
unfolding times_w_power
root_power zero u = refl
root_power (suc p) u = root_w (times_w_power p u) ∙ ap times_w (root_power p u)

rooted_sum : (n : ℕ) (u v : Cyclotomic) → rooted n (plus u v) ≡ plus (rooted n u) (rooted n v)
unfolding rooted
rooted_sum zero u v = refl
rooted_sum (suc n) u v = ap (times root2) (rooted_sum n u v) ∙ times-add_left root2 (rooted n u) (rooted n v)

rooted_power : (n p : ℕ) (u : Cyclotomic) → rooted n (times_w_power p u) ≡ times_w_power p (rooted n u)
unfolding rooted
rooted_power zero p u = refl
rooted_power (suc n) p u = ap (times root2) (rooted_power n p u) ∙ root_power p (rooted n u)

rooted_negated : (n : ℕ) (u : Cyclotomic) → rooted n (negated u) ≡ negated (rooted n u)
unfolding rooted
rooted_negated zero u = refl
rooted_negated (suc n) u = ap (times root2) (rooted_negated n u) ∙ root_negated (rooted n u)

pub rooted_nought : (n : ℕ) → rooted n nought ≡ nought
unfolding rooted
rooted_nought zero = refl
rooted_nought (suc n) = ap (times root2) (rooted_nought n) ∙ root_nought

pub rooted_more : (m n : ℕ) (u : Cyclotomic) → rooted m (rooted n u) ≡ rooted (m + n) u
unfolding rooted
rooted_more zero n u = ap (λ k. rooted k u) (let e : n ≡ 0 + n = omega arith in e)
rooted_more (suc m) n u = ap (times root2) (rooted_more m n u) ∙ ap (λ k. rooted k u) (let e : suc (m + n) ≡ suc m + n = omega arith in e)

-- ---- two numbers that are the same with so many roots

pub alike_power : (a b p : ℕ) (u v : Cyclotomic) → rooted a u ≡ rooted b v → rooted a (times_w_power p u) ≡ rooted b (times_w_power p v)
alike_power a b p u v e = rooted_power a p u ∙ ap (times_w_power p) e ∙ sym (rooted_power b p v)

pub alike_negated : (a b : ℕ) (u v : Cyclotomic) → rooted a u ≡ rooted b v → rooted a (negated u) ≡ rooted b (negated v)
alike_negated a b u v e = rooted_negated a u ∙ ap negated e ∙ sym (rooted_negated b v)

pub alike_sum : (a b : ℕ) (u v s t : Cyclotomic) → rooted a u ≡ rooted b v → rooted a s ≡ rooted b t → rooted a (plus u s) ≡ rooted b (plus v t)
alike_sum a b u v s t e f = rooted_sum a u s ∙ ap₂ plus e f ∙ sym (rooted_sum b v t)

pub alike_entry : (a b : ℕ) (e : Entry) (u v : Cyclotomic) → rooted a u ≡ rooted b v → rooted a (entry_times e u) ≡ rooted b (entry_times e v)
alike_entry a b e u v is =
    alike_sum a b (times_w_power e.first u) (times_w_power e.first v) (times_w_power e.second u) (times_w_power e.second v)
    (alike_power a b e.first u v is) (alike_power a b e.second u v is)
