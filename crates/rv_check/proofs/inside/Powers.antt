-- One or two words whose values are powers of w, and what operations make of them.
use Rattle.rv_gate.proofs.Words.{same_word-same, same_word-false}
use Rattle.std.proofs.Common.{◌≡◌, ◌≢◌, ℕ, zero, suc, ◌+◌, ◌*◌, ◌/◌, ◌%◌, ◌^◌, ◌<◌, Bool, true, false, cond, not, ◌&&◌, ◌||◌, List, [], ◌∷◌, length, set, filter, refl, sym, ap, ap₂, ◌∙◌, arith, set-set}
use Rattle.std.proofs.lemmas.Int.{ints}
use Rattle.std.proofs.lemmas.Bool.{false≢true, false_from_ne_true}
use Rattle.std.specs.List.{list_any}
use Rattle.rv_gate.specs.Word.{bit_of}
use Rattle.rv_net.specs.Amplitude.{same_word}
use Rattle.rv_net.specs.Cyclotomic.{Cyclotomic, negated, nought, plus, root2, times, times_w, times_w_power, unity}
use Rattle.rv_net.specs.declared.op.Op.TheVariants.{H}
use Rattle.rv_net.proofs.Cyclotomic.{root2_twice, same_cyclotomic, w_eight}
use Rattle.rv_check.specs.Check.{are_same}
use Rattle.rv_check.specs.Reduced.{is_large, is_multiple}
use Rattle.rv_check.specs.declared.member.Member.{Member}
use Rattle.rv_check.specs.inside.Kept.{added, is_present, kept_more, mixed, reduced_kept, spread}
use Rattle.rv_check.specs.declared.units.Units.{Units}
use Rattle.rv_check.specs.declared.units.Units.TheVariants.{One, Two}
use Rattle.rv_check.specs.inside.Small.{AreSmall}
use Rattle.rv_check.specs.inside.Units.{units_of}
use Rattle.rv_check.specs.inside.Stands.{scaled}
use Rattle.rv_check.proofs.Back.{here}
use Rattle.rv_check.proofs.inside.Multiples.{large_turned, multiple-nought, multiple-root2, multiple_turned, quotient_root2}
use Rattle.rv_check.proofs.inside.Reducing.{reduced_more, reduced_stop}
use Rattle.rv_check.proofs.inside.Scaled.{scaled-nought, scaled_cancel}
use Rattle.rv_check.proofs.inside.Sparse.{Word, same_from}

-- ---- powers of w

power-more : (p q : ℕ) (u : Cyclotomic) → times_w_power (q + p) u ≡ times_w_power q (times_w_power p u)
unfolding times_w_power
power-more p zero u = let e : 0 + p ≡ p = omega arith in ap (λ n. times_w_power n u) e
power-more p (suc q) u =
    let e : suc q + p ≡ suc (q + p) = omega arith in
    ap (λ n. times_w_power n u) e ∙ ap times_w (power-more p q u)

rounds : (k r : ℕ) (u : Cyclotomic) → times_w_power (8 * k + r) u ≡ times_w_power r u
rounds zero r u = let e : 8 * 0 + r ≡ r = omega arith in ap (λ n. times_w_power n u) e
rounds (suc k) r u =
    let e : 8 * suc k + r ≡ 8 + (8 * k + r) = omega arith in
    ap (λ n. times_w_power n u) e ∙ power-more (8 * k + r) 8 u ∙ w_eight (times_w_power (8 * k + r) u) ∙ rounds k r u

-- the code's power
pub power_after-is : (p q r : ℕ) (u : Cyclotomic) → r ≡ (p % 8 + q) % 8 → times_w_power r u ≡ times_w_power q (times_w_power p u)
power_after-is p q r u is =
    let n : 8 * (p / 8 + (p % 8 + q) / 8) + r ≡ q + p = omega (arith, is) in
    sym (rounds (p / 8 + (p % 8 + q) / 8) r u) ∙ ap (λ m. times_w_power m u) n ∙ power-more p q u

pub same_power : (p q : ℕ) (u : Cyclotomic) → p % 8 ≡ q % 8 → times_w_power p u ≡ times_w_power q u
unfolding times_w_power
same_power p q u e = sym (power_after-is p 0 (p % 8) u (omega arith)) ∙ ap (λ n. times_w_power n u) e ∙ power_after-is q 0 (q % 8) u (omega arith)

four : (u : Cyclotomic) → times_w_power 4 u ≡ negated u
unfolding times_w_power times_w negated
four u = refl

pub opposite-is : (p r : ℕ) (u : Cyclotomic) → r ≡ (p % 8 + 4) % 8 → times_w_power r u ≡ negated (times_w_power p u)
opposite-is p r u is = power_after-is p 4 r u is ∙ four (times_w_power p u)

-- two powers whose numbers differ by four are opposite
pub opposite_from : (p q r : ℕ) (u : Cyclotomic) → r ≡ (p % 8 + 4) % 8 → q % 8 ≡ r → times_w_power q u ≡ negated (times_w_power p u)
opposite_from p q r u is e =
    let n : q % 8 ≡ r % 8 = omega (arith, is, e) in
    same_power q r u n ∙ opposite-is p r u is

-- ---- they are no multiples of the root of two, so they aren't 0

one_is_none : is_multiple unity ≡ false
unfolding unity
one_is_none = refl

no_multiple : (p : ℕ) → is_multiple (times_w_power p unity) ≡ false
no_multiple p = false_from_ne_true _ (λ t. false≢true (sym one_is_none ∙ multiple_turned p unity t))

unit≢nought : (p : ℕ) → times_w_power p unity ≢ nought
unit≢nought p e = false≢true (sym (no_multiple p) ∙ ap is_multiple e ∙ multiple-nought)

twice≢nought : (v : Cyclotomic) → v ≢ nought → plus v v ≢ nought
unfolding scaled
twice≢nought v ne e = ne (scaled_cancel 2 v nought (root2_twice v ∙ e ∙ sym (scaled-nought 2)))

stays : (w : Word) (v : Cyclotomic) (ms : List Member) → v ≢ nought → filter is_present (record { word = w; value = v } ∷ ms) ≡ record { word = w; value = v } ∷ filter is_present ms
stays w v ms ne =
    ap (λ b. cond (not b) (record { word = w; value = v } ∷ filter is_present ms) (filter is_present ms))
    (false_from_ne_true (are_same v nought) (λ t. ne (same_from v nought t)))

goes : (w : Word) (v : Cyclotomic) (ms : List Member) → v ≡ nought → filter is_present (record { word = w; value = v } ∷ ms) ≡ filter is_present ms
unfolding nought
goes w v ms e = ap (λ u. filter is_present (record { word = w; value = u } ∷ ms)) e

-- ---- H on one word

apart_at : (w : Word) (line : ℕ) → line < length w → same_word (set w line false) (set w line true) ≡ false
apart_at w line lt =
    same_word-false _ _ (λ e. false≢true (sym (here w line false lt) ∙ ap (λ x. bit_of x line) e ∙ here w line true lt))

both_added : (w z : Word) (v u : Cyclotomic) → same_word w z ≡ false → added (added [] w v) z u ≡ record { word = w; value = v } ∷ record { word = z; value = u } ∷ []
unfolding added
both_added w z v u e =
    ap (λ b. cond b (record { word = w; value = plus v u } ∷ []) (record { word = w; value = v } ∷ record { word = z; value = u } ∷ [])) e

signed_unit : (b : Bool) (p : ℕ) → cond b (negated (times_w_power p unity)) (times_w_power p unity) ≢ nought
signed_unit true p e = unit≢nought (p + 4) (let n : p + 4 ≡ 4 + p = omega arith in ap (λ k. times_w_power k unity) n ∙ power-more p 4 unity ∙ four (times_w_power p unity) ∙ e)
signed_unit false p e = unit≢nought p e

pub split-is : (line : ℕ) (w : Word) (p : ℕ) → line < length w
    → kept_more (record { members = record { word = w; value = times_w_power p unity } ∷ []; exponent = 0 }) (H line)
    ≡ record {
      members =
          record { word = set w line false; value = times_w_power p unity }
          ∷ record { word = set w line true; value = cond (bit_of w line) (negated (times_w_power p unity)) (times_w_power p unity) } ∷ [];
      exponent = 1;
    }
unfolding kept_more mixed spread
split-is line w p lt =
    let v = times_w_power p unity in
    let u = cond (bit_of w line) (negated v) v in
    ap (λ l. reduced_kept 1 (filter is_present l)) (both_added (set w line false) (set w line true) v u (apart_at w line lt))
    ∙ ap (reduced_kept 1)
    (stays (set w line false) v (record { word = set w line true; value = u } ∷ []) (unit≢nought p)
    ∙ ap (λ l. record { word = set w line false; value = v } ∷ l) (stays (set w line true) u [] (signed_unit (bit_of w line) p)))
    ∙ reduced_stop 1 (record { word = set w line false; value = v } ∷ record { word = set w line true; value = u } ∷ [])
    (ap (λ b. b && (is_multiple u && true)) (no_multiple p))

-- ---- H on two words

all_added : (w z : Word) (a b c d : Cyclotomic) → same_word w z ≡ false
    → added (added (record { word = w; value = a } ∷ record { word = z; value = b } ∷ []) w c) z d
    ≡ record { word = w; value = plus a c } ∷ record { word = z; value = plus b d } ∷ []
unfolding added
all_added w z a b c d e = grind (arith, same_word-same)

-- what H on a line makes of two words that differ on it alone
pub mixed-two : (line : ℕ) (w z : Word) (v u : Cyclotomic) → line < length w → z ≡ set w line (not (bit_of w line))
    → mixed line (record { word = w; value = v } ∷ record { word = z; value = u } ∷ [])
    ≡ filter is_present
    (record { word = set w line false; value = plus v u }
    ∷ record { word = set w line true; value = plus (cond (bit_of w line) (negated v) v) (cond (bit_of w line) u (negated u)) } ∷ [])
unfolding mixed spread
mixed-two line w z v u lt is = grind (arith, here, set-set, filter, both_added, apart_at, all_added)

once_less : (n : ℕ) (w : Word) (v : Cyclotomic) → reduced_kept (suc n) (record { word = w; value = times root2 v } ∷ []) ≡ reduced_kept n (record { word = w; value = v } ∷ [])
once_less n w v =
    reduced_more (suc n) n (record { word = w; value = times root2 v } ∷ []) refl (ap (λ b. b && true) (multiple-root2 v))
    ∙ ap (λ u. reduced_kept n (record { word = w; value = u } ∷ [])) (quotient_root2 v)

-- twice a value, over two roots of two
halved : (w : Word) (v : Cyclotomic) → reduced_kept 2 (record { word = w; value = plus v v } ∷ []) ≡ record { members = record { word = w; value = v } ∷ []; exponent = 0 }
unfolding reduced_kept
halved w v =
    ap (λ u. reduced_kept 2 (record { word = w; value = u } ∷ [])) (sym (root2_twice v)) ∙ once_less 1 w (times root2 v) ∙ once_less 0 w v

cancels : (v : Cyclotomic) → plus v (negated v) ≡ nought
unfolding plus negated nought
cancels v = same_cyclotomic _ _ (omega (arith, ints)) (omega (arith, ints)) (omega (arith, ints)) (omega (arith, ints))

cancels_back : (v : Cyclotomic) → plus (negated v) v ≡ nought
unfolding plus negated nought
cancels_back v = same_cyclotomic _ _ (omega (arith, ints)) (omega (arith, ints)) (omega (arith, ints)) (omega (arith, ints))

negated_twice : (v : Cyclotomic) → negated (negated v) ≡ v
unfolding negated
negated_twice v = same_cyclotomic _ _ (omega (arith, ints)) (omega (arith, ints)) (omega (arith, ints)) (omega (arith, ints))

-- the same value at both: only the word with the bit 0 is left
pub joined-sum : (line : ℕ) (w z : Word) (p : ℕ) (u : Cyclotomic) → line < length w → z ≡ set w line (not (bit_of w line)) → u ≡ times_w_power p unity
    → kept_more (record { members = record { word = w; value = times_w_power p unity } ∷ record { word = z; value = u } ∷ []; exponent = 1 }) (H line)
    ≡ record { members = record { word = set w line false; value = times_w_power p unity } ∷ []; exponent = 0 }
unfolding kept_more
joined-sum line w z p u lt is same =
    let v = times_w_power p unity in
    ap (reduced_kept 2)
    (mixed-two line w z v u lt is
    ∙ ap (λ x. filter is_present (record { word = set w line false; value = plus v x } ∷ record { word = set w line true; value = plus (cond (bit_of w line) (negated v) v) (cond (bit_of w line) x (negated x)) } ∷ [])) same
    ∙ stays (set w line false) (plus v v) (record { word = set w line true; value = plus (cond (bit_of w line) (negated v) v) (cond (bit_of w line) v (negated v)) } ∷ []) (twice≢nought v (unit≢nought p))
    ∙ ap (λ l. record { word = set w line false; value = plus v v } ∷ l) (goes (set w line true) _ [] (none (bit_of w line) v)))
    ∙ halved (set w line false) v where
      none : (b : Bool) (v : Cyclotomic) → plus (cond b (negated v) v) (cond b v (negated v)) ≡ nought
      none true v = cancels_back v
      none false v = cancels v

-- the opposite value: only the word with the bit 1 is left
pub joined-difference : (line : ℕ) (w z : Word) (p : ℕ) (u : Cyclotomic) → line < length w → z ≡ set w line (not (bit_of w line)) → u ≡ negated (times_w_power p unity)
    → kept_more (record { members = record { word = w; value = times_w_power p unity } ∷ record { word = z; value = u } ∷ []; exponent = 1 }) (H line)
    ≡ record { members = record { word = set w line true; value = cond (bit_of w line) (negated (times_w_power p unity)) (times_w_power p unity) } ∷ []; exponent = 0 }
unfolding kept_more
joined-difference line w z p u lt is opposite =
    let v = times_w_power p unity in
    let s = cond (bit_of w line) (negated v) v in
    ap (reduced_kept 2)
    (mixed-two line w z v u lt is
    ∙ ap (λ x. filter is_present (record { word = set w line false; value = plus v x } ∷ record { word = set w line true; value = plus s (cond (bit_of w line) x (negated x)) } ∷ [])) opposite
    ∙ goes (set w line false) (plus v (negated v)) (record { word = set w line true; value = plus s (cond (bit_of w line) (negated v) (negated (negated v))) } ∷ []) (cancels v)
    ∙ ap (λ x. filter is_present (record { word = set w line true; value = plus s x } ∷ [])) (again (bit_of w line) v)
    ∙ stays (set w line true) (plus s s) [] (twice≢nought s (signed_unit (bit_of w line) p)))
    ∙ halved (set w line true) s where
      again : (b : Bool) (v : Cyclotomic) → cond b (negated v) (negated (negated v)) ≡ cond b (negated v) v
      again true v = refl
      again false v = negated_twice v

-- ---- no coefficient is beyond the limit

pub unit_small : (p : ℕ) → is_large (times_w_power p unity) ≡ false
unfolding unity
unit_small p = large_turned p unity

pub units_small : (u : Units) → list_any (λ m. is_large m.value) (units_of u).members ≡ false
units_small (One u) = ap (λ b. b || false) (unit_small u.power)
units_small (Two u v) = ap₂ (λ a b. a || (b || false)) (unit_small u.power) (unit_small v.power)

pub unity_small : AreSmall (2 ^ 120) unity
unfolding unity
unity_small = record { a = omega arith; b = omega arith; c = omega arith; d = omega arith }
