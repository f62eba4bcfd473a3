-- A flip on three lines in a row does what the usual block does.
use Rattle.std.proofs.Common.{◌≡◌, ◌≢◌, ◌∙◌, ℕ, ◌<◌, Bool, true, false, cond, ◌&&◌, List, [], ◌∷◌, map, length, set, refl, sym, ap, arith}
use Rattle.std.proofs.lemmas.Int.{ints}
use Rattle.rv_gate.specs.Gate.{xor}
use Rattle.rv_net.specs.declared.op.Op.{Op}
use Rattle.rv_net.specs.Cyclotomic.{Cyclotomic, plus, times_w, times_w_power}
use Rattle.rv_net.specs.Network.{toffoli}
use Rattle.rv_net.proofs.Cyclotomic.{same_cyclotomic}
use Rattle.rv_net.proofs.Frame.{AllWithin, puts, relabel, through}
use Rattle.rv_net.proofs.Step.{Word, bit}
use Rattle.rv_net.proofs.Toffoli.{changed, on_lines, through-toffoli}
use Rattle.rv_near.specs.Near.{is_row, near_block, row_block}
use Rattle.rv_gate.proofs.Bits.{and_comm}

abbrev twice : (Word → Cyclotomic) → Word → Cyclotomic
twice k x = plus (k x) (k x)

-- what the flip makes of three bits
abbrev flipped : (Word → Cyclotomic) → Bool → Bool → Bool → Cyclotomic
flipped k a b c = twice k (a ∷ b ∷ xor (a && b) c ∷ [])

aside : (k : Word → Cyclotomic) (a b c : Bool) → through (row_block 0 1 2 2) k (a ∷ b ∷ c ∷ []) ≡ flipped k a b c
unfolding through row_block plus times_w_power times_w
aside k false false false = same_cyclotomic _ _ (omega (arith, ints)) (omega (arith, ints)) (omega (arith, ints)) (omega (arith, ints))
aside k false false true = same_cyclotomic _ _ (omega (arith, ints)) (omega (arith, ints)) (omega (arith, ints)) (omega (arith, ints))
aside k false true false = same_cyclotomic _ _ (omega (arith, ints)) (omega (arith, ints)) (omega (arith, ints)) (omega (arith, ints))
aside k false true true = same_cyclotomic _ _ (omega (arith, ints)) (omega (arith, ints)) (omega (arith, ints)) (omega (arith, ints))
aside k true false false = same_cyclotomic _ _ (omega (arith, ints)) (omega (arith, ints)) (omega (arith, ints)) (omega (arith, ints))
aside k true false true = same_cyclotomic _ _ (omega (arith, ints)) (omega (arith, ints)) (omega (arith, ints)) (omega (arith, ints))
aside k true true false = same_cyclotomic _ _ (omega (arith, ints)) (omega (arith, ints)) (omega (arith, ints)) (omega (arith, ints))
aside k true true true = same_cyclotomic _ _ (omega (arith, ints)) (omega (arith, ints)) (omega (arith, ints)) (omega (arith, ints))

-- the target stands between the controls
between : (k : Word → Cyclotomic) (a b c : Bool) → through (row_block 0 2 1 2) k (a ∷ b ∷ c ∷ []) ≡ flipped k a b c
unfolding through row_block plus times_w_power times_w
between k false false false = same_cyclotomic _ _ (omega (arith, ints)) (omega (arith, ints)) (omega (arith, ints)) (omega (arith, ints))
between k false false true = same_cyclotomic _ _ (omega (arith, ints)) (omega (arith, ints)) (omega (arith, ints)) (omega (arith, ints))
between k false true false = same_cyclotomic _ _ (omega (arith, ints)) (omega (arith, ints)) (omega (arith, ints)) (omega (arith, ints))
between k false true true = same_cyclotomic _ _ (omega (arith, ints)) (omega (arith, ints)) (omega (arith, ints)) (omega (arith, ints))
between k true false false = same_cyclotomic _ _ (omega (arith, ints)) (omega (arith, ints)) (omega (arith, ints)) (omega (arith, ints))
between k true false true = same_cyclotomic _ _ (omega (arith, ints)) (omega (arith, ints)) (omega (arith, ints)) (omega (arith, ints))
between k true true false = same_cyclotomic _ _ (omega (arith, ints)) (omega (arith, ints)) (omega (arith, ints)) (omega (arith, ints))
between k true true true = same_cyclotomic _ _ (omega (arith, ints)) (omega (arith, ints)) (omega (arith, ints)) (omega (arith, ints))

within : (p q r t : ℕ) → p < 3 → q < 3 → r < 3 → t < 3 → AllWithin 3 (row_block p q r t)
unfolding row_block
within p q r t hp hq hr ht = omega (arith, hp, hq, hr, ht)

-- a block on three lines, from its law on words of three bits
module _ (k : Word → Cyclotomic) (x : Word) (a b c : ℕ) (ha : a < length x) (hb : b < length x) (hc : c < length x) (ab : a ≢ b) (ac : a ≢ c) (bc : b ≢ c) where
  on-row : (q r : ℕ) → q < 3 → r < 3 → ((m : Word → Cyclotomic) (i j l : Bool) → through (row_block 0 q r 2) m (i ∷ j ∷ l ∷ []) ≡ flipped m i j l)
      → (block : List Op) → map (relabel (a ∷ b ∷ c ∷ [])) (row_block 0 q r 2) ≡ block
      → through block k x ≡ twice k (set x c (xor (bit x a && bit x b) (bit x c)))
  on-row q r hq hr law block same =
      ap (λ net. through net k x) (sym same)
      ∙ on_lines (row_block 0 q r 2) k x a b c ha hb hc ab ac bc (within 0 q r 2 (omega arith) hq hr (omega arith))
      ∙ law (λ u. k (puts x (a ∷ b ∷ c ∷ []) u)) (bit x a) (bit x b) (bit x c)
      ∙ ap (λ v. twice k v) (changed x a b c (xor (bit x a && bit x b) (bit x c)) ac bc)

  pub through-aside : through (row_block a b c c) k x ≡ twice k (set x c (xor (bit x a && bit x b) (bit x c)))
  unfolding row_block relabel
  through-aside = on-row 1 2 (omega arith) (omega arith) aside (row_block a b c c) refl

  pub through-between : through (row_block a c b c) k x ≡ twice k (set x c (xor (bit x a && bit x b) (bit x c)))
  unfolding row_block relabel
  through-between = on-row 2 1 (omega arith) (omega arith) between (row_block a c b c) refl

-- the law
pub through-near : (k : Word → Cyclotomic) (x : Word) (a b c : ℕ) → a < length x → b < length x → c < length x → a ≢ b → a ≢ c → b ≢ c
    → through (near_block a b c) k x ≡ through (toffoli a b c) k x
through-near k x a b c ha hb hc ab ac bc = go (is_row a b c) (is_row a c b) (is_row b a c)
  where
    usual : twice k (set x c (xor (bit x a && bit x b) (bit x c))) ≡ through (toffoli a b c) k x
    usual = sym (through-toffoli k x a b c ha hb hc ab ac bc)

    go : (s t u : Bool) → through (cond s (row_block a b c c) (cond t (row_block a c b c) (cond u (row_block b a c c) (toffoli a b c)))) k x ≡ through (toffoli a b c) k x
    go true t u = through-aside k x a b c ha hb hc ab ac bc ∙ usual
    go false true u = through-between k x a b c ha hb hc ab ac bc ∙ usual
    go false false true =
        through-aside k x b a c hb ha hc (λ e. ab (sym e)) bc ac
        ∙ ap (λ (both : Bool). twice k (set x c (xor both (bit x c)))) (and_comm (bit x b) (bit x a)) ∙ usual
    go false false false = refl
