-- A term joined into a table, block by block.
use Rattle.std.proofs.lemmas.Grind.{common_steps}
use Rattle.std.proofs.Common.{◌≡◌, ℕ, zero, suc, ◌+◌, ◌-◌, ◌*◌, ◌/◌, ◌%◌, ◌^◌, ◌<◌, ◌≤◌, Bool, true, false, ◌&&◌, cond, nat_eq, List, length, get_or, take, drop, sym, ap, ap₂, ◌∙◌, inl, inr, arith, ne_eqb}
use Rattle.std.specs.Prelude.{bit_and, bit_xor}
use borrow.Rule.Slice.PartMut.{put_mid, post_of}
use Rattle.std.specs.Int.Bits.{xor_zero_r, or_zero_r}
use Rattle.std.proofs.Math.ListN.{get_or-append}
use Rattle.std.proofs.Math.Nat.{div-add-mod', mod-lt, mul-le-mul_right, mul-mod_right}
use Rattle.std.proofs.lemmas.Bool.{cases_eq, cases_lt}
use Rattle.std.proofs.lemmas.List.{get_or-append_right, get_or-take, get_or-drop, length-take-le}
use Rattle.std.proofs.lemmas.Slice.{drop-put_mid}
use Rattle.std.proofs.lemmas.Nat.{and_block, and_le_r, xor_block, xor_lt, pow_pos, pow-add}
use Rattle.rv_pla.specs.inside.Table.{joined_sets, agrees_by}

pub joined_sets-nothing : (odd : Bool) (a : ℕ) → joined_sets odd a 0 ≡ a
joined_sets-nothing true a = xor_zero_r a
joined_sets-nothing false a = or_zero_r a

-- ---- a number in two parts

none_of_both : (a b p : ℕ) → 0 < p → nat_eq (a * p + b) 0 ≡ (nat_eq a 0 && nat_eq b 0)
none_of_both zero b p h = ap (λ n. nat_eq n 0) (let e : zero * p + b ≡ b = omega arith in e)
none_of_both (suc a) b p h = ne_eqb (suc a * p + b) 0 (λ e. omega arith) ∙ sym (ap (λ t. t && nat_eq b 0) (ne_eqb (suc a) 0 (λ e. omega arith)))

-- two numbers in two parts each
parts_of : (k x y : ℕ) (f : ℕ → ℕ → ℕ) → f (x / 2 ^ k * 2 ^ k + x % 2 ^ k) (y / 2 ^ k * 2 ^ k + y % 2 ^ k) ≡ f x y
parts_of k x y f = ap₂ f (div-add-mod' x (2 ^ k)) (div-add-mod' y (2 ^ k))

-- the bits that differ
wrong-parts : (k x care want : ℕ)
    → bit_and (bit_xor x want) care
    ≡ bit_and (bit_xor (x / 2 ^ k) (want / 2 ^ k)) (care / 2 ^ k) * 2 ^ k + bit_and (bit_xor (x % 2 ^ k) (want % 2 ^ k)) (care % 2 ^ k)
wrong-parts k x care want =
    let xr = mod-lt x (pow_pos k) in
    let cr = mod-lt care (pow_pos k) in
    let wr = mod-lt want (pow_pos k) in
    sym (ap₂ bit_and (parts_of k x want bit_xor) (div-add-mod' care (2 ^ k)))
    ∙ ap (λ v. bit_and v (care / 2 ^ k * 2 ^ k + care % 2 ^ k)) (xor_block k (x / 2 ^ k) (want / 2 ^ k) (x % 2 ^ k) (want % 2 ^ k) xr wr)
    ∙ and_block k _ (care / 2 ^ k) _ (care % 2 ^ k) (xor_lt k (x % 2 ^ k) (want % 2 ^ k) xr wr) cr

pub agrees-parts : (k x care want : ℕ)
    → agrees_by x care want ≡ (agrees_by (x / 2 ^ k) (care / 2 ^ k) (want / 2 ^ k) && agrees_by (x % 2 ^ k) (care % 2 ^ k) (want % 2 ^ k))
agrees-parts k x care want = ap (λ v. nat_eq v 0) (wrong-parts k x care want) ∙ none_of_both _ _ (2 ^ k) (pow_pos k)

-- ---- numbers that differ from a place on

-- their first bits are wrong where a bit of them is
first_bits_wrong : (k x care want : ℕ) → 2 ^ k ≤ bit_and (bit_xor x want) care → agrees_by (x / 2 ^ k) (care / 2 ^ k) (want / 2 ^ k) ≡ false
first_bits_wrong k x care want wrong = ne_eqb _ 0 (λ none.
    let pp = pow_pos k in
    let low = and_le_r (bit_xor (x % 2 ^ k) (want % 2 ^ k)) (care % 2 ^ k) in
    let few = mod-lt care pp in
    let all = wrong-parts k x care want in
    let less : bit_and (bit_xor x want) care ≡ bit_and (bit_xor (x % 2 ^ k) (want % 2 ^ k)) (care % 2 ^ k) = all ∙ ap (λ n. n * 2 ^ k + bit_and (bit_xor (x % 2 ^ k) (want % 2 ^ k)) (care % 2 ^ k)) none ∙ (omega arith) in
    omega arith)

same_first_bits : (k x y : ℕ) → x ≤ y → y < (x / 2 ^ k + 1) * 2 ^ k → y / 2 ^ k ≡ x / 2 ^ k
same_first_bits k x y from below = grind arith

pub all_wrong : (k x y care want : ℕ) → 2 ^ k ≤ bit_and (bit_xor x want) care → x ≤ y → y < (x / 2 ^ k + 1) * 2 ^ k → agrees_by y care want ≡ false
all_wrong k x y care want wrong from below =
    agrees-parts k y care want
    ∙ ap (λ q. agrees_by q (care / 2 ^ k) (want / 2 ^ k) && agrees_by (y % 2 ^ k) (care % 2 ^ k) (want % 2 ^ k)) (same_first_bits k x y from below)
    ∙ ap (λ b. b && agrees_by (y % 2 ^ k) (care % 2 ^ k) (want % 2 ^ k)) (first_bits_wrong k x care want wrong)

pub moves_past : (k x : ℕ) → x < (x / 2 ^ k + 1) * 2 ^ k
moves_past k x = let xs = div-add-mod' x (2 ^ k) in let xr = mod-lt x (pow_pos k) in omega arith

-- ---- a part of a table in its place

part_before : (a k x : ℕ) (table part : List ℕ) → a ≤ length table → x < a → get_or (put_mid a k table part) x 0 ≡ get_or table x 0
part_before a k x table part within h = grind (arith, length-take-le, get_or-append, post_of, get_or-take)

part_in : (a k j : ℕ) (table part : List ℕ) → a ≤ length table → j < length part → get_or (put_mid a k table part) (a + j) 0 ≡ get_or part j 0
part_in a k j table part within h = grind (arith, get_or-append_right, post_of, length-take-le, get_or-append)

part_after : (a k x : ℕ) (table part : List ℕ) → a ≤ length table → length part ≡ k → a + k ≤ x → get_or (put_mid a k table part) x 0 ≡ get_or table x 0
part_after a k x table part within len h = grind (arith, common_steps, put_mid, drop-put_mid, get_or-drop)

-- ---- the loop over the blocks

-- the block is joined into those before `first` that agree
pub record IsJoining (odd : Bool) (old table block : List ℕ) (size care want first : ℕ) : Type 0 where
  pub done : (x : ℕ) → x < length old → x / size < first
      → get_or table x 0 ≡ joined_sets odd (get_or old x 0) (cond (agrees_by (x / size) care want) (get_or block (x % size) 0) 0)
  pub rest : (x : ℕ) → x < length old → first ≤ x / size → get_or table x 0 ≡ get_or old x 0

module _ (odd : Bool) (old table block : List ℕ) (size care want first : ℕ) (some : 0 < size) (so_far : IsJoining odd old table block size care want first) where
  pub joining_skips : (next : ℕ) → first ≤ next → ((y : ℕ) → first ≤ y → y < next → agrees_by y care want ≡ false) → IsJoining odd old table block size care want next
  joining_skips next on skips = record {
    done = λ x within below. elim (cases_lt (x / size) first) [
      | inl before ↦ so_far.done x within before
      | inr here ↦
          so_far.rest x within here
          ∙ sym (joined_sets-nothing odd (get_or old x 0))
          ∙ ap (λ b. joined_sets odd (get_or old x 0) (cond b (get_or block (x % size) 0) 0)) (sym (skips (x / size) here below))
    ];
    rest = λ x within above. so_far.rest x within (omega arith);
  }

  pub joining_more : (k : ℕ) (part : List ℕ) → agrees_by first care want ≡ true → length table ≡ length old → first * size + size ≤ length old → k ≡ size → length part ≡ k → size ≤ length block
      → ((j : ℕ) → j < size → get_or part j 0 ≡ joined_sets odd (get_or (take k (drop (first * size) table)) j 0) (get_or (take size block) j 0))
      → IsJoining odd old (put_mid (first * size) k table part) block size care want (first + 1)
  joining_more k part agree same within k_is len wide each =
      let a : ℕ = first * size in
      let inside : a ≤ length table = omega arith in
      record {
        done = λ x lt below.
            let parts = div-add-mod' x size in
            let r = mod-lt x some in
            elim (cases_eq (x / size) first) [
              | inl here ↦
                  let j : ℕ = x % size in
                  let at : a + j ≡ x = ap (λ q. q * size + j) (sym here) ∙ parts in
                  let old_at : get_or (take k (drop a table)) j 0 ≡ get_or old x 0 =
                  get_or-take k (drop a table) j 0 (omega arith) ∙ get_or-drop a table j 0 ∙ ap (λ i. get_or table i 0) at ∙ so_far.rest x lt (omega arith) in
                  ap (λ i. get_or (put_mid a k table part) i 0) (sym at)
                  ∙ part_in a k j table part inside (omega arith)
                  ∙ each j r
                  ∙ ap (λ v. joined_sets odd v (get_or (take size block) j 0)) old_at
                  ∙ ap (joined_sets odd (get_or old x 0)) (get_or-take size block j 0 r ∙ ap (λ b. cond b (get_or block j 0) 0) (sym (ap (λ q. agrees_by q care want) here ∙ agree)))
              | inr before ↦
                  let q : x / size + 1 ≤ first = omega arith in
                  let m = mul-le-mul_right size q in
                  part_before a k x table part inside (omega arith) ∙ so_far.done x lt (omega arith)
            ];
        rest = λ x lt above.
            let parts = div-add-mod' x size in
            let m = mul-le-mul_right size above in
            part_after a k x table part inside len (omega arith) ∙ so_far.rest x lt (omega arith);
      }

-- all blocks
pub joining_all : (odd : Bool) (old table block : List ℕ) (size care want first : ℕ) → 0 < size → length old % size ≡ 0 → length old / size ≤ first → IsJoining odd old table block size care want first
    → (x : ℕ) → x < length old → get_or table x 0 ≡ joined_sets odd (get_or old x 0) (cond (agrees_by (x / size) care want) (get_or block (x % size) 0) 0)
joining_all odd old table block size care want first some whole all joining x lt = grind arith

both_agree : (a b : Bool) (n : ℕ) → cond a (cond b n 0) 0 ≡ cond (a && b) n 0
both_agree a b n = grind arith

-- the blocks of 2 ^ k words
pub joined_word : (odd : Bool) (k x care want outs : ℕ) (old new : ℕ) (block : List ℕ)
    → get_or block (x % 2 ^ k) 0 ≡ cond (agrees_by (x % 2 ^ k) (care % 2 ^ k) (want % 2 ^ k)) outs 0
    → new ≡ joined_sets odd old (cond (agrees_by (x / 2 ^ k) (care / 2 ^ k) (want / 2 ^ k)) (get_or block (x % 2 ^ k) 0) 0)
    → new ≡ joined_sets odd old (cond (agrees_by x care want) outs 0)
joined_word odd k x care want outs old new block filled is =
    grind (arith, joined_sets, agrees_by, both_agree, agrees-parts)

-- a table is so many whole blocks
pub whole_blocks : (n k : ℕ) → k ≤ n → 2 ^ n % 2 ^ k ≡ 0
whole_blocks n k h =
    let e : k + (n - k) ≡ n = omega arith in
    ap (λ m. 2 ^ m % 2 ^ k) (sym e) ∙ ap (λ v. v % 2 ^ k) (pow-add 2 k (n - k)) ∙ mul-mod_right (2 ^ k) (2 ^ (n - k))
