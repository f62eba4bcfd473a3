-- Products that ask for all operands, one for each set of operands at which a node is 1.
use Rattle.std.proofs.Common.{◌≡◌, ◌≢◌, ℕ, ◌+◌, ◌-◌, ◌^◌, ◌<◌, ◌≤◌, Bool, true, false, List, [], ◌∷◌, ◌++◌, length, refl, sym, ◌∙◌, ap, inl, inr, arith, eq-eqb, length-append}
use Rattle.std.specs.Prelude.{None}
use Rattle.std.proofs.Math.Bool.{beq}
use Rattle.std.proofs.lemmas.Bool.{cases_eq, false_from_ne_true}
use Rattle.std.proofs.lemmas.Nat.Bits.{bit_at_ones}
use Rattle.rv_gate.specs.Word.{word_with}
use Rattle.rv_gate.specs.Gate.{holds, same, xor}
use Rattle.rv_gate.specs.inside.laws.WordLaws.{bit_of-word_with, length-word_with}
use Rattle.rv_gate.proofs.LineSets.{same_lines_below}
use Rattle.rv_gate.proofs.inside.GateLemmas.{holds_Decides}
use Rattle.rv_blif.specs.Logic.{Node}
use Rattle.rv_blif.specs.declared.product.Product.{Product}
use Rattle.rv_compute.specs.inside.Sums.{sum_of, cover_value, IsSum}
use Rattle.rv_compute.proofs.inside.Adding.{sum_of-append, sum_of-one}
use Rattle.rv_compute.proofs.inside.Summing.{is_sum_all}

-- a product that asks for all operands holds of its set
all_asked-same : (count set : ℕ) → holds (2 ^ count - 1) set (word_with count set) ≡ true
all_asked-same count set =
    (holds_Decides (2 ^ count - 1) set (word_with count set)).1
    (λ line lt on. bit_of-word_with count set line (omega (arith, length-word_with count set)))

-- and of no other
all_asked-other : (count k set : ℕ) → k < 2 ^ count → set < 2 ^ count → k ≢ set
    → holds (2 ^ count - 1) set (word_with count k) ≡ false
all_asked-other count k set lk ls ne =
    false_from_ne_true _ (λ h.
    ne (same_lines_below count k set lk ls (λ line lt.
    sym (bit_of-word_with count k line lt)
    ∙ (holds_Decides (2 ^ count - 1) set (word_with count k)).0 h line (omega (arith, length-word_with count k))
    (eq-eqb _ 1 (bit_at_ones count line lt)))))

-- those of the first sets
pub record HaveWords (node : Node) (count sets : ℕ) (products : List Product) : Type 0 where
  pub few : length products ≤ sets
  pub here : (k : ℕ) → k < sets → sum_of products (word_with count k) ≡ cover_value node (word_with count k)
  pub later : (k : ℕ) → sets ≤ k → k < 2 ^ count → sum_of products (word_with count k) ≡ false

pub words_none : (node : Node) (count : ℕ) → HaveWords node count 0 []
unfolding sum_of
words_none node count = record { few = omega arith; here = λ k lt. absurd (omega arith); later = λ k le lt. refl }

-- a set at which the node is 1
pub words_more : (node : Node) (count set : ℕ) (products : List Product) (product : Product) → set < 2 ^ count
    → product.care ≡ 2 ^ count - 1 → product.want ≡ set → cover_value node (word_with count set) ≡ true
    → HaveWords node count set products → HaveWords node count (set + 1) (products ++ product ∷ [])
words_more node count set products product ls care want on so_far = record {
  few = let few = so_far.few in omega (arith, length-append products (product ∷ []));
  here = λ k lt.
      elim (cases_eq k set) [
        | inl e ↦
            (sum_of-append products (product ∷ []) (word_with count k)
            ∙ ap (λ b. xor b (sum_of (product ∷ []) (word_with count k))) (so_far.later k (omega arith) (omega arith))
            ∙ ap (xor false) (told k ∙ ap (λ s. holds (2 ^ count - 1) s (word_with count k)) (sym e) ∙ all_asked-same count k)
            ∙ sym on ∙ ap (λ s. cover_value node (word_with count s)) (sym e))
        | inr ne ↦ (other k ne (omega arith) ∙ so_far.here k (omega arith))
      ];
  later = λ k le lt. other k (λ e. omega arith) lt ∙ so_far.later k (omega arith) lt;
}
  where
    told : (k : ℕ) → sum_of (product ∷ []) (word_with count k) ≡ holds (2 ^ count - 1) set (word_with count k)
    told k =
        sum_of-one product (word_with count k)
        ∙ ap (λ c. holds c product.want (word_with count k)) care
        ∙ ap (λ w. holds (2 ^ count - 1) w (word_with count k)) want

    xor_none : (b : Bool) → xor b false ≡ b
    xor_none true = refl
    xor_none false = refl

    other : (k : ℕ) → k ≢ set → k < 2 ^ count → sum_of (products ++ product ∷ []) (word_with count k) ≡ sum_of products (word_with count k)
    other k ne lk =
        sum_of-append products (product ∷ []) (word_with count k)
        ∙ ap (xor (sum_of products (word_with count k))) (told k ∙ all_asked-other count k set lk ls ne)
        ∙ xor_none (sum_of products (word_with count k))

-- a set at which it is 0
pub words_skip : (node : Node) (count set : ℕ) (products : List Product) → set < 2 ^ count
    → cover_value node (word_with count set) ≡ false → HaveWords node count set products
    → HaveWords node count (set + 1) products
words_skip node count set products ls off so_far = record {
  few = let few = so_far.few in omega arith;
  here = λ k lt.
      elim (cases_eq k set) [
        | inl e ↦
            (so_far.later k (omega arith) (omega arith)
            ∙ sym off ∙ ap (λ s. cover_value node (word_with count s)) (sym e))
        | inr ne ↦ so_far.here k (omega arith)
      ];
  later = λ k le lt. so_far.later k (omega arith) lt;
}

pub words_all : (node : Node) (count sets : ℕ) (products : List Product) → count ≡ length node.operands
    → 2 ^ count ≤ sets → HaveWords node count sets products → IsSum node None products
words_all node count sets products ec le h =
    is_sum_all node count None products sets ec le (record {
      value = λ k lt. sym (h.here k lt) ∙ none_xor (sum_of products (word_with count k));
    })
  where
    none_xor : (b : Bool) → b ≡ xor false b
    none_xor true = refl
    none_xor false = refl

pub beq-same : (a b : Bool) → beq a b ≡ same a b
beq-same true true = refl
beq-same true false = refl
beq-same false true = refl
beq-same false false = refl
