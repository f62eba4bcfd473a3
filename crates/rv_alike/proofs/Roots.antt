-- Products with the root of two, so many times.
use Rattle.std.proofs.Common.{◌≡◌, ℕ, zero, suc, ◌+◌, ◌*◌, refl, sym, ap, ap₂, ◌∙◌, arith}
use Rattle.std.proofs.lemmas.Int.{ints}
use Rattle.rv_net.specs.Cyclotomic.{Cyclotomic, doubled, plus, power, root2, times, times_w, times_w_power}
use Rattle.rv_net.proofs.Cyclotomic.{same_cyclotomic, times-add_left, times-add_right, times_w_power-times, unity_times}
use Rattle.rv_sums.specs.inside.Paths.{rooted}
use Rattle.rv_sums.proofs.Turns.{rooted_cancels, rooted_doubled, rooted_more}

root_as : (u : Cyclotomic) → times root2 u ≡ plus (times_w_power 1 u) (times_w_power 7 u)
unfolding times root2 plus times_w_power times_w
root_as u = same_cyclotomic _ _ (omega (arith, ints)) (omega (arith, ints)) (omega (arith, ints)) (omega (arith, ints))

root_times : (u v : Cyclotomic) → times root2 (times u v) ≡ times (times root2 u) v
root_times u v =
    root_as (times u v) ∙ ap₂ plus (times_w_power-times 1 u v) (times_w_power-times 7 u v)
    ∙ sym (times-add_right v (times_w_power 1 u) (times_w_power 7 u)) ∙ ap (λ w. times w v) (sym (root_as u))

pub rooted_times : (d : ℕ) (u v : Cyclotomic) → rooted d (times u v) ≡ times (rooted d u) v
unfolding rooted
rooted_times zero u v = refl
rooted_times (suc d) u v = ap (times root2) (rooted_times d u v) ∙ root_times (rooted d u) v

pub scaled : (d : ℕ) (u : Cyclotomic) → times (power root2 d) u ≡ rooted d u
unfolding rooted power
scaled zero u = unity_times u
scaled (suc d) u = sym (root_times (power root2 d) u) ∙ ap (times root2) (scaled d u)

pub rooted_sum : (d : ℕ) (u v : Cyclotomic) → rooted d (plus u v) ≡ plus (rooted d u) (rooted d v)
unfolding rooted
rooted_sum zero u v = refl
rooted_sum (suc d) u v = ap (times root2) (rooted_sum d u v) ∙ times-add_left root2 (rooted d u) (rooted d v)

pub times_doubled : (k : ℕ) (u v : Cyclotomic) → times u (doubled k v) ≡ doubled k (times u v)
unfolding doubled
times_doubled zero u v = refl
times_doubled (suc k) u v = times-add_left u (doubled k v) (doubled k v) ∙ ap (λ w. plus w w) (times_doubled k u v)

pub regrouped : (m n k l : ℕ) (u : Cyclotomic) → m + n ≡ k + l → rooted m (rooted n u) ≡ rooted k (rooted l u)
regrouped m n k l u e = rooted_more m n u ∙ ap (λ d. rooted d u) e ∙ sym (rooted_more k l u)

-- ---- an amplitude that is another one doubled

pub lifted : (a a' b b' p q : ℕ) (u u' v v' : Cyclotomic) → u ≡ doubled p u' → v ≡ doubled q v' → a ≡ a' + 2 * p → b ≡ b' + 2 * q
    → rooted b' u' ≡ rooted a' v' → rooted b u ≡ rooted a v
lifted a a' b b' p q u u' v v' us vs of_a of_b e =
    ap (rooted b) (us ∙ sym (rooted_doubled p u'))
    ∙ regrouped b (2 * p) (2 * p + 2 * q) b' u' (omega (arith, of_b))
    ∙ ap (rooted (2 * p + 2 * q)) e
    ∙ regrouped (2 * p + 2 * q) a' a (2 * q) v' (omega (arith, of_a))
    ∙ ap (rooted a) (rooted_doubled q v' ∙ sym vs)

pub lowered : (a a' b b' p q : ℕ) (u u' v v' : Cyclotomic) → u ≡ doubled p u' → v ≡ doubled q v' → a ≡ a' + 2 * p → b ≡ b' + 2 * q
    → rooted b u ≡ rooted a v → rooted b' u' ≡ rooted a' v'
lowered a a' b b' p q u u' v v' us vs of_a of_b e =
    rooted_cancels (2 * p + 2 * q) _ _
    (regrouped (2 * p + 2 * q) b' b (2 * p) u' (omega (arith, of_b))
    ∙ ap (rooted b) (rooted_doubled p u' ∙ sym us) ∙ e ∙ ap (rooted a) (vs ∙ sym (rooted_doubled q v'))
    ∙ regrouped a (2 * q) (2 * p + 2 * q) a' v' (omega (arith, of_a)))
