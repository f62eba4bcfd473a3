-- The bits of keys where two neighbouring lines exchange their names.
use Rattle.std.proofs.Common.{◌≡◌, ◌≢◌, ℕ, zero, suc, ◌+◌, ◌*◌, ◌/◌, ◌%◌, ◌^◌, ◌<◌, Bool, true, eqb, ltb, ◌&&◌, refl, sym, ◌∙◌, ap, arith}
use Rattle.std.specs.Int.{bit_at}
use Rattle.std.proofs.lemmas.Bool.{and_parts, eqb-true, ltb-true}
use Rattle.std.proofs.lemmas.Nat.Bits.{bit_at_cat_low}
use Rattle.rv_gate.specs.Gate.{all_below, same}
use Rattle.rv_gate.specs.Word.{has}
use Rattle.rv_gate.proofs.AllBelow.{all_below-at}
use Rattle.rv_gate.proofs.Bits.{same_true}
use Rattle.rv_gate.proofs.LineSets.{bit_at-shr, same_lines_below}
use Rattle.rv_many.specs.Square.{came_from}
use Rattle.rv_optimal.specs.inside.Packed.{at}
use Rattle.rv_optimal.specs.inside.Alike.{exchange, swapped}
use Rattle.rv_optimal.proofs.inside.Keys.{at-small}
use Rattle.rv_optimal.proofs.inside.Packing.{at-is}
use Rattle.rv_optimal.proofs.inside.Swapping.{at-swapped, swapped-small}

has-at : (key place j : ℕ) → j < 4 → has key (4 * place + j) ≡ has (at key place) j
has-at key place j lt =
    let high : ℕ = key / 2 ^ (4 * place) in
    let e : high / 16 * 2 ^ 4 + high % 16 ≡ high = omega arith in
    ap (λ b. eqb b 1) (sym (bit_at-shr key (4 * place) j) ∙ ap (λ m. bit_at m j) (sym e) ∙ bit_at_cat_low (high / 16) 4 (high % 16) j lt)
    ∙ ap (λ m. has m j) (sym (at-is key place))

-- the bit that an exchange brings to a bit of a number
pub from_bit : ℕ → ℕ → ℕ
from_bit zero j = at 0x3201 j
from_bit (suc zero) j = at 0x3120 j
from_bit (suc (suc line)) j = at 0x2310 j

same_at : ℕ → ℕ → ℕ → Bool
same_at line v j = same (has (at (exchange line) v) j) (has v (from_bit line j)) && ltb (from_bit line j) 4

all_same_at : (line : ℕ) → all_below (λ v. all_below (same_at line v) 4) 16 ≡ true
unfolding at exchange same_at from_bit
all_same_at zero = refl
all_same_at (suc zero) = refl
all_same_at (suc (suc line)) = refl

-- whether two exchanges of bits bring to a place what comes there
abbrev pub comes_from : ℕ → ℕ → ℕ → ℕ → ℕ → Bool
comes_from line first second apart k =
    ltb (came_from second apart k) 64 && eqb (came_from first 1 (came_from second apart k)) (4 * at (exchange line) (k / 4) + from_bit line (k % 4))

pub swapped_by : (line first second apart key images result : ℕ) → all_below (comes_from line first second apart) 64 ≡ true → result < 2 ^ 64
    → ((place : ℕ) → place < 64 → has images place ≡ has key (came_from first 1 place)) → ((place : ℕ) → place < 64 → has result place ≡ has images (came_from second apart place))
    → result ≡ swapped line key
unfolding same_at
swapped_by line first second apart key images result all less first_is second_is =
    same_lines_below 64 result (swapped line key) less (swapped-small line key) (λ k lt.
    let place : ℕ = k / 4 in
    let j : ℕ = k % 4 in
    let e : 4 * place + j ≡ k = omega arith in
    let source : ℕ = at (exchange line) place in
    let parts = and_parts (ltb (came_from second apart k) 64) _ (all_below-at (comes_from line first second apart) 64 k all lt) in
    let bit = all_below-at (same_at line (at key source)) 4 j (all_below-at (λ v. all_below (same_at line v) 4) 16 (at key source) (all_same_at line) (at-small key source)) (omega arith) in
    let both = and_parts (same (has (at (exchange line) (at key source)) j) (has (at key source) (from_bit line j))) (ltb (from_bit line j) 4) bit in
    second_is k lt ∙ first_is (came_from second apart k) (ltb-true _ _ parts.0) ∙ ap (has key) (eqb-true _ _ parts.1)
    ∙ has-at key source (from_bit line j) (ltb-true _ _ both.1)
    ∙ sym (ap (has (swapped line key)) (sym e) ∙ has-at (swapped line key) place j (omega arith)
    ∙ ap (λ m. has m j) (at-swapped line key place (omega (arith, lt))) ∙ same_true _ _ both.0))

all_first : all_below (comes_from 0 0x1111111111111111 0x00F000F000F000F0 4) 64 ≡ true
unfolding at exchange from_bit
all_first = refl

all_second : all_below (comes_from 1 0x2222222222222222 0x0000FF000000FF00 8) 64 ≡ true
unfolding at exchange from_bit
all_second = refl

all_third : (line : ℕ) → all_below (comes_from (suc (suc line)) 0x4444444444444444 0x00000000FFFF0000 16) 64 ≡ true
unfolding at exchange from_bit
all_third line = refl

pub swapped_first : (key images result : ℕ) → result < 2 ^ 64 → ((place : ℕ) → place < 64 → has images place ≡ has key (came_from 0x1111111111111111 1 place))
    → ((place : ℕ) → place < 64 → has result place ≡ has images (came_from 0x00F000F000F000F0 4 place)) → result ≡ swapped 0 key
swapped_first key images result = swapped_by 0 _ _ _ key images result all_first

pub swapped_second : (key images result : ℕ) → result < 2 ^ 64 → ((place : ℕ) → place < 64 → has images place ≡ has key (came_from 0x2222222222222222 1 place))
    → ((place : ℕ) → place < 64 → has result place ≡ has images (came_from 0x0000FF000000FF00 8 place)) → result ≡ swapped 1 key
swapped_second key images result = swapped_by 1 _ _ _ key images result all_second

pub swapped_third : (line key images result : ℕ) → line ≢ 0 → line ≢ 1 → result < 2 ^ 64 → ((place : ℕ) → place < 64 → has images place ≡ has key (came_from 0x4444444444444444 1 place))
    → ((place : ℕ) → place < 64 → has result place ≡ has images (came_from 0x00000000FFFF0000 16 place)) → result ≡ swapped line key
swapped_third zero key images result no_first no_second = absurd (no_first refl)
swapped_third (suc zero) key images result no_first no_second = absurd (no_second refl)
swapped_third (suc (suc line)) key images result no_first no_second = swapped_by (suc (suc line)) _ _ _ key images result (all_third line)
