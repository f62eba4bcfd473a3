-- Sums of products, evaluated at all sets of operands.
use Rattle.std.proofs.Common.{◌≡◌, ℕ, ◌+◌, ◌^◌, ◌<◌, ◌≤◌, Bool, true, false, not, ◌||◌, List, [], ◌∷◌, length, drop, get_or, refl, sym, subst, ◌∙◌, ap, arith}
use Rattle.std.specs.Prelude.{Option, Some, None, IfSome}
use Rattle.std.proofs.Math.Bool.{beq}
use Rattle.std.proofs.lemmas.List.{at_drop_more, drop_all}
use Rattle.rv_gate.specs.Word.{has, word_with, ones_of}
use Rattle.rv_gate.specs.Gate.{holds, xor}
use Rattle.rv_gate.specs.inside.laws.WordLaws.{bit_of-word_with}
use Rattle.rv_gate.proofs.Bits.{xor_false, xor_assoc}
use Rattle.rv_gate.proofs.inside.GateLemmas.{holds_none}
use Rattle.rv_gate.proofs.inside.Ones.{word_with-ones_of, ones_of-lt}
use Rattle.rv_blif.specs.Logic.{Node, any_holds}
use Rattle.rv_blif.specs.declared.product.Product.{Product}
use Rattle.rv_compute.specs.inside.Sums.{sum_of, start_value, cover_value, IsSum, PassesOn}

pub any_here : (products : List Product) (k : ℕ) (d : Product) (word : List Bool) (all : Bool) → k < length products
    → any_holds (drop k products) word ≡ all → holds (get_or products k d).care (get_or products k d).want word ≡ true
    → true ≡ all
any_here products k d word all h so_far on =
    ap (λ t. t || any_holds (drop (k + 1) products) word) (sym on)
    ∙ sym (at_drop_more (λ ps. any_holds ps word) products k d h) ∙ so_far

pub sum_more : (products : List Product) (k : ℕ) (d : Product) (word : List Bool) (sum all : Bool) → k < length products
    → xor sum (sum_of (drop k products) word) ≡ all
    → xor (xor sum (holds (get_or products k d).care (get_or products k d).want word)) (sum_of (drop (k + 1) products) word)
    ≡ all
unfolding sum_of
sum_more products k d word sum all h so_far =
    xor_assoc sum (holds (get_or products k d).care (get_or products k d).want word) (sum_of (drop (k + 1) products) word)
    ∙ ap (xor sum) (sym (at_drop_more (λ ps. sum_of ps word) products k d h)) ∙ so_far

pub sum_done : (products : List Product) (k : ℕ) (word : List Bool) (sum all : Bool) → length products ≤ k
    → xor sum (sum_of (drop k products) word) ≡ all → sum ≡ all
unfolding sum_of
sum_done products k word sum all h so_far =
    sym (ap (λ ps. xor sum (sum_of ps word)) (drop_all k products h) ∙ xor_false sum) ∙ so_far

-- the node is a sum at each of the first sets of operands
pub record IsSumBelow (node : Node) (count : ℕ) (start : Option ℕ) (products : List Product) (sets : ℕ) : Type 0 where
  pub value : (set : ℕ) → set < sets
      → cover_value node (word_with count set)
      ≡ xor (start_value start (word_with count set)) (sum_of products (word_with count set))

pub is_sum_all : (node : Node) (count : ℕ) (start : Option ℕ) (products : List Product) (sets : ℕ)
    → count ≡ length node.operands → 2 ^ count ≤ sets → IsSumBelow node count start products sets
    → IsSum node start products
is_sum_all node count start products sets ec le h = record {
  value = λ word len.
      let same : word_with count (ones_of word) ≡ word =
      ap (λ n. word_with n (ones_of word)) (ec ∙ sym len) ∙ word_with-ones_of word in
      let size : 2 ^ length word ≡ 2 ^ count = ap (λ n. 2 ^ n) (len ∙ sym ec) in
      let lt : ones_of word < 2 ^ count = omega (arith, ones_of-lt word) in
      let P : List Bool → Type 0 =
      λ w. cover_value node w ≡ xor (start_value start w) (sum_of products w) in
      subst P same (h.value (ones_of word) (omega arith));
}

pub xor-beq : (a b : Bool) → not (beq a b) ≡ xor a b
xor-beq true true = refl
xor-beq true false = refl
xor-beq false true = refl
xor-beq false false = refl

pub start_is : (start : Option ℕ) (operand count set : ℕ) → start ≡ Some operand → operand < count
    → has set operand ≡ start_value start (word_with count set)
start_is start operand count set e lt =
    rw e (sym (bit_of-word_with count set operand lt))

pub below_start : (start : Option ℕ) (operand count : ℕ) → start ≡ Some operand → IfSome start (λ o. o < count)
    → operand < count
below_start (Some o) operand count e h =
    let f : o ≡ operand = cc in omega arith
below_start None operand count e h = cc

-- ---- nodes that pass on what they get

pub pass_same : (node : Node) (start : Option ℕ) (changed : Bool) → changed ≡ false → IsSum node start []
    → PassesOn node start changed
unfolding sum_of
pass_same node start changed off sum = record {
  value = λ word len. sum.value word len ∙ ap (xor (start_value start word)) (sym off);
}

pub pass_changed : (node : Node) (start : Option ℕ) (product : Product) (changed : Bool) → product.care ≡ 0
    → product.want ≡ 0 → changed ≡ true → IsSum node start (product ∷ []) → PassesOn node start changed
unfolding sum_of
pass_changed node start product changed care want on sum = record {
  value = λ word len.
      sum.value word len
      ∙ ap (xor (start_value start word))
      (xor_false (holds product.care product.want word)
      ∙ ap (λ c. holds c product.want word) care ∙ ap (λ w. holds 0 w word) want
      ∙ holds_none word ∙ sym on);
}
