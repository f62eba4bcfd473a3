-- Powers of w, and the root of two.
use Rattle.std.proofs.Common.{◌≡◌, ℕ, zero, suc, ◌+◌, ◌*◌, ◌/◌, ◌%◌, refl, sym, ap, ◌∙◌, arith}
use Rattle.rv_net.specs.Cyclotomic.{Cyclotomic, nought, unity, root2, plus, negated, times_w, times_w_power, times, power, doubled}
use Rattle.rv_sums.specs.inside.Paths.{rooted}
use Rattle.rv_net.proofs.Cyclotomic.{w_eight, turns_add, halved, root2_twice}

-- ---- powers of w by their rests modulo 8

turns_eights : (k : ℕ) (u : Cyclotomic) → times_w_power (8 * k) u ≡ u
unfolding times_w_power
turns_eights zero u = refl
turns_eights (suc k) u =
    ap (λ n. times_w_power n u) (let e : 8 * suc k ≡ 8 + 8 * k = omega arith in e)
    ∙ sym (turns_add 8 (8 * k) u) ∙ w_eight (times_w_power (8 * k) u) ∙ turns_eights k u

turns_rest : (p : ℕ) (u : Cyclotomic) → times_w_power p u ≡ times_w_power (p % 8) u
turns_rest p u =
    ap (λ n. times_w_power n u) (let e : p ≡ p % 8 + 8 * (p / 8) = omega arith in e)
    ∙ sym (turns_add (p % 8) (8 * (p / 8)) u) ∙ ap (times_w_power (p % 8)) (turns_eights (p / 8) u)

pub turns_same : (p q : ℕ) (u : Cyclotomic) → p % 8 ≡ q % 8 → times_w_power p u ≡ times_w_power q u
turns_same p q u e = turns_rest p u ∙ ap (λ n. times_w_power n u) e ∙ sym (turns_rest q u)

pub turns_none : (p : ℕ) (u : Cyclotomic) → p % 8 ≡ 0 → times_w_power p u ≡ u
unfolding times_w_power
turns_none p u e = turns_rest p u ∙ ap (λ n. times_w_power n u) e

pub turns_four : (u : Cyclotomic) → times_w_power 4 u ≡ negated u
unfolding times_w_power times_w negated
turns_four u = refl

-- ---- the root of two can be taken away

pub root2_cancels : (u v : Cyclotomic) → times root2 u ≡ times root2 v → u ≡ v
root2_cancels u v e = halved u v (sym (root2_twice u) ∙ ap (times root2) e ∙ root2_twice v)

pub rooted_cancels : (d : ℕ) (u v : Cyclotomic) → rooted d u ≡ rooted d v → u ≡ v
unfolding rooted
rooted_cancels zero u v e = e
rooted_cancels (suc d) u v e = rooted_cancels d u v (root2_cancels _ _ e)

pub rooted_power : (h : ℕ) → power root2 h ≡ rooted h unity
unfolding rooted power
rooted_power zero = refl
rooted_power (suc h) = ap (times root2) (rooted_power h)

pub rooted_more : (m n : ℕ) (u : Cyclotomic) → rooted m (rooted n u) ≡ rooted (m + n) u
unfolding rooted
rooted_more zero n u = ap (λ k. rooted k u) (let e : n ≡ 0 + n = omega arith in e)
rooted_more (suc m) n u = ap (times root2) (rooted_more m n u) ∙ ap (λ k. rooted k u) (let e : suc (m + n) ≡ suc m + n = omega arith in e)

pub rooted_twice : (d e : ℕ) (u : Cyclotomic) → e ≡ d + 2 → rooted e u ≡ plus (rooted d u) (rooted d u)
unfolding rooted
rooted_twice d e u is =
    ap (λ k. rooted k u) (let s : e ≡ suc (suc d) = omega arith in s) ∙ root2_twice (rooted d u)

pub rooted_once : (d e : ℕ) (u : Cyclotomic) → e ≡ d + 1 → rooted e u ≡ times root2 (rooted d u)
unfolding rooted
rooted_once d e u is = ap (λ k. rooted k u) (let s : e ≡ suc d = omega arith in s)

pub rooted_doubled : (n : ℕ) (u : Cyclotomic) → rooted (2 * n) u ≡ doubled n u
unfolding rooted doubled
rooted_doubled zero u = refl
rooted_doubled (suc n) u =
    rooted_twice (2 * n) (2 * suc n) u (omega arith) ∙ ap (λ w. plus w w) (rooted_doubled n u)

pub rooted_plus : (d : ℕ) (u : Cyclotomic) → rooted d (plus u u) ≡ plus (rooted d u) (rooted d u)
unfolding rooted
rooted_plus d u =
    ap (rooted d) (sym (rooted_twice 0 2 u refl)) ∙ rooted_more d 2 u ∙ rooted_twice d (d + 2) u refl

pub rooted_root : (d : ℕ) (u : Cyclotomic) → rooted d (times root2 u) ≡ times root2 (rooted d u)
unfolding rooted
rooted_root d u =
    ap (rooted d) (sym (rooted_once 0 1 u refl)) ∙ rooted_more d 1 u ∙ rooted_once d (d + 1) u refl

times_nought : times root2 nought ≡ nought
unfolding times root2 nought
times_nought = refl

pub rooted_nought : (d : ℕ) → rooted d nought ≡ nought
unfolding rooted
rooted_nought zero = refl
rooted_nought (suc d) = ap (times root2) (rooted_nought d) ∙ times_nought
