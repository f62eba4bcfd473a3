-- Powers of w go by their remainders modulo 8, and blocks by parities.
use Rattle.std.proofs.Common.{◌≡◌, ℕ, zero, suc, ◌+◌, ◌*◌, ◌/◌, ◌%◌, Bool, true, false, ◌&&◌, refl, sym, ap, ◌∙◌, arith}
use Rattle.rv_gate.specs.Gate.{xor}
use Rattle.rv_net.specs.Cyclotomic.{Cyclotomic, times_w_power}
use Rattle.rv_net.proofs.Cyclotomic.{turns_add, w_eight}
use Rattle.rv_joined.specs.Blocks.{parts, turn}
use Rattle.rv_joined.specs.declared.block.Block.{Block}
use Rattle.rv_joined.specs.declared.block.Block.TheVariants.{Plus, Minus, Before, After}

eights : (q r : ℕ) (u : Cyclotomic) → times_w_power (r + 8 * q) u ≡ times_w_power r u
eights zero r u = ap (λ n. times_w_power n u) (let e : r + 8 * 0 ≡ r = omega arith in e)
eights (suc q) r u =
    ap (λ n. times_w_power n u) (let e : r + 8 * suc q ≡ 8 + (r + 8 * q) = omega arith in e)
    ∙ sym (turns_add 8 (r + 8 * q) u)
    ∙ w_eight (times_w_power (r + 8 * q) u)
    ∙ eights q r u

remainder : (m : ℕ) (u : Cyclotomic) → times_w_power m u ≡ times_w_power (m % 8) u
remainder m u =
    ap (λ n. times_w_power n u) (let e : m ≡ m % 8 + 8 * (m / 8) = omega arith in e) ∙ eights (m / 8) (m % 8) u

pub same_power : (m n : ℕ) (u : Cyclotomic) → m % 8 ≡ n % 8 → times_w_power m u ≡ times_w_power n u
same_power m n u e = remainder m u ∙ ap (λ k. times_w_power k u) e ∙ sym (remainder n u)

pub no_power : (m : ℕ) (u : Cyclotomic) → m % 8 ≡ 0 → times_w_power m u ≡ u
unfolding times_w_power
no_power m u e = remainder m u ∙ ap (λ k. times_w_power k u) e

-- the parities of a block add up to its power
pub parts_turn : (b : Block) (a c t : Bool) → parts b a c t (xor (a && c) t) % 8 ≡ turn b a c t % 8
parts_turn Plus false false false = refl
parts_turn Plus false false true = refl
parts_turn Plus false true false = refl
parts_turn Plus false true true = refl
parts_turn Plus true false false = refl
parts_turn Plus true false true = refl
parts_turn Plus true true false = refl
parts_turn Plus true true true = refl
parts_turn Minus false false false = refl
parts_turn Minus false false true = refl
parts_turn Minus false true false = refl
parts_turn Minus false true true = refl
parts_turn Minus true false false = refl
parts_turn Minus true false true = refl
parts_turn Minus true true false = refl
parts_turn Minus true true true = refl
parts_turn Before false false false = refl
parts_turn Before false false true = refl
parts_turn Before false true false = refl
parts_turn Before false true true = refl
parts_turn Before true false false = refl
parts_turn Before true false true = refl
parts_turn Before true true false = refl
parts_turn Before true true true = refl
parts_turn After false false false = refl
parts_turn After false false true = refl
parts_turn After false true false = refl
parts_turn After false true true = refl
parts_turn After true false false = refl
parts_turn After true false true = refl
parts_turn After true true false = refl
parts_turn After true true true = refl
