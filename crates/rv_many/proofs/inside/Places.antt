-- The bits of the numbers of a block: the lowest by a table, the others by the block's own number.
use Rattle.std.proofs.Common.{◌≡◌, ℕ, ◌+◌, ◌-◌, ◌*◌, ◌/◌, ◌%◌, ◌^◌, ◌<◌, ◌≤◌, Bool, true, eqb, [], get_or, refl, sym, ◌∙◌, ap, arith}
use Rattle.std.specs.Int.{bit_at}
use Rattle.std.proofs.lemmas.Bool.{eqb-true}
use Rattle.std.proofs.lemmas.Nat.Bits.{bit_at_cat_low, bit_at_cat_high}
use Rattle.rv_gate.specs.Gate.{all_below}
use Rattle.rv_gate.specs.Word.{has}
use Rattle.rv_gate.proofs.AllBelow.{all_below-at}
use Rattle.rv_many.specs.declared.block.TheConstants.{PLACES}

abbrev is_placed : ℕ → Bool
is_placed bit = all_below (λ j. eqb (bit_at (get_or (get_or PLACES bit []) (j / 64) 0) (j % 64)) (bit_at j bit)) 256

places_right : all_below is_placed 8 ≡ true
places_right = refl

pub low_bit : (block bit j : ℕ) → bit < 8 → j < 256 → has (get_or (get_or PLACES bit []) (j / 64) 0) (j % 64) ≡ has (256 * block + j) bit
low_bit block bit j low lt =
    let at = all_below-at (λ i. eqb (bit_at (get_or (get_or PLACES bit []) (i / 64) 0) (i % 64)) (bit_at i bit)) 256 j (all_below-at is_placed 8 bit places_right low) lt in
    let e : block * 2 ^ 8 + j ≡ 256 * block + j = omega arith in
    ap (λ b. eqb b 1) (eqb-true _ _ at ∙ sym (bit_at_cat_low block 8 j bit low) ∙ ap (λ x. bit_at x bit) e)

pub high_bit : (block bit j : ℕ) → 8 ≤ bit → j < 256 → has block (bit - 8) ≡ has (256 * block + j) bit
high_bit block bit j high lt =
    let e : block * 2 ^ 8 + j ≡ 256 * block + j = omega arith in
    ap (λ b. eqb b 1) (sym (bit_at_cat_high block 8 j bit lt high) ∙ ap (λ x. bit_at x bit) e)
