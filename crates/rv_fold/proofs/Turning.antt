-- Phases pass operations.
use Rattle.std.proofs.Common.{◌≡◌, ℕ, zero, suc, ◌+◌, ◌*◌, ◌/◌, ◌%◌, ◌<◌, Bool, true, false, cond, refl, sym, ap, ◌∙◌, arith, set}
use Rattle.rv_net.specs.declared.op.Op.{Op}
use Rattle.rv_net.specs.Cyclotomic.{Cyclotomic, times_w_power}
use Rattle.rv_net.proofs.Step.{Word, bit, step}
use Rattle.rv_net.proofs.Cyclotomic.{times_w_power-add, w_eight, turns_comm}
pub use Rattle.rv_net.proofs.Cyclotomic.{turns_add}
use Rattle.rv_net.proofs.Frame.{through}
use Rattle.rv_fold.specs.Folded.{phase_ops}
use Rattle.rv_fold.proofs.Values.{Next}

pub step-next : (o : Op) (k m : Word → Cyclotomic) (x : Word) → ((y : Word) → Next o x y → k y ≡ m y) → step o k x ≡ step o m x
step-next o k m x h = grind (arith, set, bit)

pub step-turn : (o : Op) (p : ℕ) (k : Word → Cyclotomic) (x : Word) → step o (λ y. times_w_power p (k y)) x ≡ times_w_power p (step o k x)
step-turn o p k x = grind (arith, turns_comm, times_w_power-add)

turns_eights : (m : ℕ) (u : Cyclotomic) → times_w_power (8 * m) u ≡ u
unfolding times_w_power
turns_eights zero u = refl
turns_eights (suc m) u = ap (λ n. times_w_power n u) (let e : 8 * suc m ≡ 8 + 8 * m = omega arith in e) ∙ sym (turns_add 8 (8 * m) u) ∙ w_eight _ ∙ turns_eights m u

pub turns_mod : (p : ℕ) (u : Cyclotomic) → times_w_power (p % 8) u ≡ times_w_power p u
turns_mod p u = ap (times_w_power (p % 8)) (sym (turns_eights (p / 8) u)) ∙ turns_add (p % 8) (8 * (p / 8)) u ∙ ap (λ n. times_w_power n u) (let e : p % 8 + 8 * (p / 8) ≡ p = omega arith in e)

pub no_turn : (u : Cyclotomic) → times_w_power 0 u ≡ u
unfolding times_w_power
no_turn u = refl

-- ---- the operations of an exponent
pub data BelowEight : ℕ → Type 0 where
  is_0 : BelowEight 0
  is_1 : BelowEight 1
  is_2 : BelowEight 2
  is_3 : BelowEight 3
  is_4 : BelowEight 4
  is_5 : BelowEight 5
  is_6 : BelowEight 6
  is_7 : BelowEight 7

pub below_eight : (s : ℕ) → s < 8 → BelowEight s
below_eight zero h = is_0
below_eight (suc zero) h = is_1
below_eight (suc (suc zero)) h = is_2
below_eight (suc (suc (suc zero))) h = is_3
below_eight (suc (suc (suc (suc zero)))) h = is_4
below_eight (suc (suc (suc (suc (suc zero))))) h = is_5
below_eight (suc (suc (suc (suc (suc (suc zero)))))) h = is_6
below_eight (suc (suc (suc (suc (suc (suc (suc zero))))))) h = is_7
below_eight (suc (suc (suc (suc (suc (suc (suc (suc s)))))))) h = absurd (omega arith)

pub phases-step : (q s : ℕ) → BelowEight s → (k : Word → Cyclotomic) (x : Word) → through (phase_ops q s) k x ≡ times_w_power (cond (bit x q) s 0) (k x)
unfolding through times_w_power
phases-step q s (is_0) k x = go (bit x q)
  where
    go : (b : Bool) → k x ≡ times_w_power (cond b 0 0) (k x)
    go true = refl
    go false = refl
phases-step q s (is_1) k x = refl
phases-step q s (is_2) k x = refl
phases-step q s (is_3) k x = go (bit x q)
  where
    go : (b : Bool) → times_w_power (cond b 2 0) (times_w_power (cond b 1 0) (k x)) ≡ times_w_power (cond b 3 0) (k x)
    go true = refl
    go false = refl
phases-step q s (is_4) k x = refl
phases-step q s (is_5) k x = go (bit x q)
  where
    go : (b : Bool) → times_w_power (cond b 4 0) (times_w_power (cond b 1 0) (k x)) ≡ times_w_power (cond b 5 0) (k x)
    go true = refl
    go false = refl
phases-step q s (is_6) k x = refl
phases-step q s (is_7) k x = refl
