-- The places of inputs that are changed as others differ.
use Rattle.rv_gate.proofs.LineSets.{bit_xor-back}
use Rattle.std.proofs.Common.{◌≡◌, ℕ, ◌*◌, ◌%◌, ◌^◌, ◌<◌, sym, ◌∙◌, ap, arith}
use Rattle.std.specs.Prelude.{bit_xor}
use Rattle.std.specs.Int.Bits.{xor_assoc}
use native.Mathlib.Numerals.{unary_clauses}
use Rattle.std.proofs.lemmas.Nat.{pow_pos, xor_block, xor_comm, xor_lt, xor_mod}
use Rattle.rv_pla.specs.declared.cube.Cube.{Cube}
use Rattle.rv_cube.specs.inside.Slots.{key_of}
use Rattle.rv_cube.specs.inside.Filter.{filter_place, ones_place}
use Rattle.rv_cube.specs.inside.Moved.{moved_as, IsStep}
use Rattle.std.proofs.lemmas.Grind.{common_steps}
use Rattle.rv_cube.proofs.Sums.{xor_pairs}

-- ---- exclusive or

shifted : (k a b : ℕ) → bit_xor a b * 2 ^ k ≡ bit_xor (a * 2 ^ k) (b * 2 ^ k)
shifted k a b = simp unary_clauses at (sym (xor_block k a b 0 0 (pow_pos k) (pow_pos k)))

-- ---- places

pub place_within : (care want : ℕ) → care < 2 ^ 16 → want < 2 ^ 16 → bit_xor care (ones_place want) < 2 ^ 19
place_within care want c w =
    xor_lt 19 care (ones_place want) (omega arith) (xor_lt 19 (want * 8) (want * 128 % 524288) (omega arith) (omega arith))

ones_place-xor : (a b : ℕ) → ones_place (bit_xor a b) ≡ bit_xor (ones_place a) (ones_place b)
ones_place-xor a b =
    ap (λ n. bit_xor n (bit_xor a b * 128 % 524288)) (shifted 3 a b)
    ∙ ap (bit_xor (bit_xor (a * 8) (b * 8))) (ap (λ n. n % 524288) (shifted 7 a b) ∙ xor_mod (a * 128) (b * 128) 19)
    ∙ xor_pairs (a * 8) (b * 8) (a * 128 % 524288) (b * 128 % 524288)

place_xor : (a b c d : ℕ) → bit_xor (bit_xor a c) (ones_place (bit_xor b d)) ≡ bit_xor (bit_xor a (ones_place b)) (bit_xor c (ones_place d))
place_xor a b c d = ap (bit_xor (bit_xor a c)) (ones_place-xor b d) ∙ xor_pairs a c (ones_place b) (ones_place d)

place_moved : (from cube to : Cube)
    → filter_place (key_of (moved_as from cube to)) ≡ bit_xor (bit_xor (filter_place (key_of from)) (filter_place (key_of cube))) (filter_place (key_of to))
unfolding filter_place
place_moved from cube to = grind (arith, place_xor)

-- the place of inputs that differ from `from` as `to` does from the cube
pub place_after : (from cube to : Cube) (place step : ℕ) → place ≡ filter_place (key_of from) → IsStep cube to step
    → bit_xor place step ≡ filter_place (key_of (moved_as from cube to))
place_after from cube to place step e s = grind (arith, bit_xor, filter_place, key_of, xor_assoc, place_moved)

pub step_within : (x y : ℕ) → x < 2 ^ 19 → y < 2 ^ 19 → bit_xor x y < 2 ^ 19
step_within x y l k = xor_lt 19 x y l k

pub step_is : (cube to : Cube) (x y : ℕ) → x ≡ filter_place (key_of cube) → y ≡ filter_place (key_of to) → x < 2 ^ 19 → y < 2 ^ 19 → IsStep cube to (bit_xor x y)
step_is cube to x y e f l k = grind (arith, common_steps, step_within)

-- ---- the place of one cube from that of another

pub place_between : (from to : Cube) (place : ℕ) → place ≡ filter_place (key_of from)
    → bit_xor place (filter_place (bit_xor from.care to.care, bit_xor from.want to.want)) ≡ filter_place (key_of to)
unfolding filter_place
place_between from to place e = grind (arith, bit_xor, filter_place, key_of, place_xor, bit_xor-back)
