-- Powers of w, and the operations that bring them.
use Rattle.std.proofs.Common.{◌≡◌, ℕ, zero, suc, ◌+◌, ◌*◌, ◌/◌, ◌%◌, ◌<◌, ◌==◌, Bool, true, false, not, cond, [], ◌∷◌, ◌++◌, length, refl, sym, ap, ◌∙◌, arith, set, get_or-set_same, set-set}
use Rattle.std.proofs.lemmas.Int.{ints}
use Rattle.std.proofs.lemmas.Bool.{eqb-true}
use Rattle.std.proofs.lemmas.List.{set-get_or}
use Rattle.rv_net.specs.declared.op.Op.TheVariants.{X}
use Rattle.rv_net.specs.Cyclotomic.{Cyclotomic, nought, plus, root2, times, times_w, times_w_power}
use Rattle.rv_net.proofs.Cyclotomic.{same_cyclotomic, turns_add, w_eight}
use Rattle.rv_net.proofs.Step.{Word, bit}
use Rattle.rv_net.proofs.Frame.{through, through-append}
use Rattle.rv_angles.specs.Ops.{small_phase_ops, phase_ops, zero_ops}

turns_eights : (m : ℕ) (u : Cyclotomic) → times_w_power (8 * m) u ≡ u
unfolding times_w_power
turns_eights zero u = refl
turns_eights (suc m) u = ap (λ n. times_w_power n u) (let e : 8 * suc m ≡ 8 + 8 * m = omega arith in e) ∙ sym (turns_add 8 (8 * m) u) ∙ w_eight _ ∙ turns_eights m u

pub turns_mod : (p : ℕ) (u : Cyclotomic) → times_w_power (p % 8) u ≡ times_w_power p u
turns_mod p u = ap (times_w_power (p % 8)) (sym (turns_eights (p / 8) u)) ∙ turns_add (p % 8) (8 * (p / 8)) u ∙ ap (λ n. times_w_power n u) (let e : p % 8 + 8 * (p / 8) ≡ p = omega arith in e)

pub same_power : (p q : ℕ) (u : Cyclotomic) → p % 8 ≡ q % 8 → times_w_power p u ≡ times_w_power q u
same_power p q u e = sym (turns_mod p u) ∙ ap (λ n. times_w_power n u) e ∙ turns_mod q u

pub no_turn : (u : Cyclotomic) → times_w_power 0 u ≡ u
unfolding times_w_power
no_turn u = refl

pub opposite : (u : Cyclotomic) → plus u (times_w_power 4 u) ≡ nought
unfolding plus nought times_w_power times_w
opposite u = same_cyclotomic _ _ (omega (arith, ints)) (omega (arith, ints)) (omega (arith, ints)) (omega (arith, ints))

pub root_sum : (u : Cyclotomic) → times root2 u ≡ plus (times_w_power 1 u) (times_w_power 7 u)
unfolding times root2 plus times_w_power times_w
root_sum u = same_cyclotomic _ _ (omega (arith, ints)) (omega (arith, ints)) (omega (arith, ints)) (omega (arith, ints))

-- ---- a power where a bit is 1, and one where it is 0

below : (b : Bool) (p : ℕ) (u : Cyclotomic) → times_w_power (cond b (p % 8) 0) u ≡ times_w_power (cond b p 0) u
below true p u = turns_mod p u
below false p u = refl

data BelowEight : ℕ → Type 0 where
  is_0 : BelowEight 0
  is_1 : BelowEight 1
  is_2 : BelowEight 2
  is_3 : BelowEight 3
  is_4 : BelowEight 4
  is_5 : BelowEight 5
  is_6 : BelowEight 6
  is_7 : BelowEight 7

below_eight : (s : ℕ) → s < 8 → BelowEight s
below_eight zero h = is_0
below_eight (suc zero) h = is_1
below_eight (suc (suc zero)) h = is_2
below_eight (suc (suc (suc zero))) h = is_3
below_eight (suc (suc (suc (suc zero)))) h = is_4
below_eight (suc (suc (suc (suc (suc zero))))) h = is_5
below_eight (suc (suc (suc (suc (suc (suc zero)))))) h = is_6
below_eight (suc (suc (suc (suc (suc (suc (suc zero))))))) h = is_7
below_eight (suc (suc (suc (suc (suc (suc (suc (suc s)))))))) h = absurd (omega arith)

phases_small : (q s : ℕ) → BelowEight s → (k : Word → Cyclotomic) (x : Word) → through (small_phase_ops s q) k x ≡ times_w_power (cond (bit x q) s 0) (k x)
unfolding through times_w_power
phases_small q s (is_0) k x = go (bit x q)
  where
    go : (b : Bool) → k x ≡ times_w_power (cond b 0 0) (k x)
    go true = refl
    go false = refl
phases_small q s (is_1) k x = refl
phases_small q s (is_2) k x = refl
phases_small q s (is_3) k x = go (bit x q)
  where
    go : (b : Bool) → times_w_power (cond b 2 0) (times_w_power (cond b 1 0) (k x)) ≡ times_w_power (cond b 3 0) (k x)
    go true = refl
    go false = refl
phases_small q s (is_4) k x = refl
phases_small q s (is_5) k x = go (bit x q)
  where
    go : (b : Bool) → times_w_power (cond b 4 0) (times_w_power (cond b 1 0) (k x)) ≡ times_w_power (cond b 5 0) (k x)
    go true = refl
    go false = refl
phases_small q s (is_6) k x = refl
phases_small q s (is_7) k x = refl

pub phases-through : (q p : ℕ) (k : Word → Cyclotomic) (x : Word) → through (phase_ops p q) k x ≡ times_w_power (cond (bit x q) p 0) (k x)
phases-through q p k x = phases_small q (p % 8) (below_eight (p % 8) (omega arith)) k x ∙ below (bit x q) p (k x)

pub flipped_back : (x : Word) (q : ℕ) (b : Bool) → q < length x → bit x q ≡ b → set (set x q (not b)) q (not (bit (set x q (not b)) q)) ≡ x
flipped_back x q b h is = grind (arith, get_or-set_same, set-set, set-get_or)

pub zeros-through : (q p : ℕ) (k : Word → Cyclotomic) (x : Word) → q < length x → through (zero_ops p q) k x ≡ times_w_power (cond (bit x q) 0 p) (k x)
unfolding through
zeros-through q p k x h = by (p % 8 == 0) refl
  where
    no_power : (b : Bool) → (p % 8 == 0) ≡ true → k x ≡ times_w_power (cond b 0 p) (k x)
    no_power true is = sym (no_turn (k x))
    no_power false is = sym (no_turn (k x)) ∙ same_power 0 p (k x) (omega (arith, eqb-true _ _ is))

    -- after the first X
    turned : (b : Bool) → bit x q ≡ b → through (phase_ops p q ++ X q ∷ []) k (set x q (not b)) ≡ times_w_power (cond b 0 p) (k x)
    turned b is =
        through-append (phase_ops p q) (X q ∷ []) k (set x q (not b))
        ∙ phases-through q p (λ v. through (X q ∷ []) k v) (set x q (not b))
        ∙ ap (λ c. times_w_power (cond c p 0) (times_w_power 0 (k (set (set x q (not b)) q (not (bit (set x q (not b)) q)))))) (get_or-set_same x q (not b) false h)
        ∙ ap (λ u. times_w_power (cond (not b) p 0) u) (no_turn (k (set (set x q (not b)) q (not (bit (set x q (not b)) q)))) ∙ ap k (flipped_back x q b h is))
        ∙ swapped b
      where
        swapped : (b : Bool) → times_w_power (cond (not b) p 0) (k x) ≡ times_w_power (cond b 0 p) (k x)
        swapped true = refl
        swapped false = refl

    by : (t : Bool) → (p % 8 == 0) ≡ t → through (cond t [] (X q ∷ (phase_ops p q ++ X q ∷ []))) k x ≡ times_w_power (cond (bit x q) 0 p) (k x)
    by true is = no_power (bit x q) is
    by false is = no_turn (through (phase_ops p q ++ X q ∷ []) k (set x q (not (bit x q)))) ∙ turned (bit x q) refl
