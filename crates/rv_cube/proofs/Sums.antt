-- The esop_value of a list of cubes after an edit.
use Rattle.std.proofs.Common.{◌≡◌, ℕ, zero, suc, ◌<◌, Bool, cond, List, [], ◌∷◌, length, get_or, set, sym, ◌∙◌, ap, arith}
use Rattle.std.specs.Prelude.{bit_xor}
use Rattle.std.specs.List.{remove}
use Rattle.std.proofs.lemmas.Nat.Bits.{bit_at-lt, bit_at_xor, same_from_bits}
use Rattle.std.specs.Int.{bit_at}
use Rattle.std.specs.Int.Bits.{xor_assoc, xor_self, xor_zero_l, xor_zero_r}
use Rattle.rv_gate.specs.Gate.{xor}
use Rattle.rv_cube.specs.Esop.{share, esop_value}
use Rattle.rv_cube.specs.Reduction.{no_cube}
use Rattle.rv_pla.specs.declared.cube.Cube.{Cube}

-- ---- sums without carry

pub xor_swap : (a b c : ℕ) → bit_xor a (bit_xor b c) ≡ bit_xor b (bit_xor a c)
xor_swap a b c =
    same_from_bits _ _ (λ i.
    let s = bit_at_xor a (bit_xor b c) i in
    let t = bit_at_xor b c i in
    let u = bit_at_xor b (bit_xor a c) i in
    let v = bit_at_xor a c i in
    omega arith)

-- both go, and their exclusive or comes
pub xor_merge : (a b v : ℕ) → bit_xor (bit_xor a (bit_xor a b)) (bit_xor b v) ≡ v
xor_merge a b v =
    same_from_bits _ _ (λ i.
    let s = bit_at_xor (bit_xor a (bit_xor a b)) (bit_xor b v) i in
    let t = bit_at_xor b v i in
    let u = bit_at_xor a (bit_xor a b) i in
    let x = bit_at_xor a b i in
    let y = bit_at-lt v i in
    let z = bit_at-lt b i in
    omega arith)

-- m drops out
pub xor_middle : (a b m : ℕ) → bit_xor (bit_xor a m) (bit_xor b m) ≡ bit_xor a b
xor_middle a b m =
    same_from_bits _ _ (λ i.
    let s = bit_at_xor (bit_xor a m) (bit_xor b m) i in
    let t = bit_at_xor a m i in
    let u = bit_at_xor b m i in
    let w = bit_at_xor a b i in
    omega arith)

-- f goes for a and s for b
pub xor_pair : (a b f s v : ℕ) → bit_xor f s ≡ bit_xor a b → bit_xor (bit_xor b s) (bit_xor (bit_xor a f) v) ≡ v
xor_pair a b f s v h =
    same_from_bits _ _ (λ i.
    let e : bit_at (bit_xor f s) i ≡ bit_at (bit_xor a b) i = ap (λ n. bit_at n i) h in
    let o = bit_at_xor (bit_xor b s) (bit_xor (bit_xor a f) v) i in
    let t = bit_at_xor b s i in
    let u = bit_at_xor (bit_xor a f) v i in
    let w = bit_at_xor a f i in
    let x = bit_at_xor f s i in
    let y = bit_at_xor a b i in
    let z = bit_at-lt v i in
    omega arith)

xor_last : (s t : ℕ) → bit_xor (bit_xor s t) s ≡ t
xor_last s t =
    same_from_bits _ _ (λ i.
    let a = bit_at_xor (bit_xor s t) s i in
    let b = bit_at_xor s t i in
    let c = bit_at-lt t i in
    omega arith)

pub xor_pairs : (a b c d : ℕ) → bit_xor (bit_xor a b) (bit_xor c d) ≡ bit_xor (bit_xor a c) (bit_xor b d)
xor_pairs a b c d = xor_assoc a b (bit_xor c d) ∙ ap (bit_xor a) (xor_swap b c d) ∙ sym (xor_assoc a c (bit_xor b d))

-- ---- shares

pub share-xor : (x y : Bool) (outs : ℕ) → cond (xor x y) outs 0 ≡ bit_xor (cond x outs 0) (cond y outs 0)
share-xor x y outs = grind (arith, xor_self, xor_zero_r, xor_zero_l)

pub share-outs : (x : Bool) (a b : ℕ) → cond x (bit_xor a b) 0 ≡ bit_xor (cond x a 0) (cond x b 0)
share-outs x a b = grind arith

-- ---- edits

pub value-set : (cubes : List Cube) (i : ℕ) (c : Cube) (word : List Bool) → i < length cubes
    → esop_value (set cubes i c) word ≡ bit_xor (bit_xor (share (get_or cubes i no_cube) word) (share c word)) (esop_value cubes word)
unfolding esop_value
value-set [] i c word h = absurd (omega arith)
value-set (x ∷ xs) zero c word h =
    let s : ℕ = share x word in
    let t : ℕ = share c word in
    let v : ℕ = esop_value xs word in
    sym (sym (xor_assoc (bit_xor s t) s v) ∙ ap (λ k. bit_xor k v) (xor_last s t))
value-set (x ∷ xs) (suc i) c word h =
    ap (bit_xor (share x word)) (value-set xs i c word (omega arith)) ∙ xor_swap (share x word) _ (esop_value xs word)

pub value-remove : (cubes : List Cube) (i : ℕ) (word : List Bool) → i < length cubes
    → esop_value (remove cubes i) word ≡ bit_xor (share (get_or cubes i no_cube) word) (esop_value cubes word)
unfolding esop_value
value-remove [] i word h = absurd (omega arith)
value-remove (x ∷ xs) zero word h =
    sym (sym (xor_assoc (share x word) (share x word) (esop_value xs word)) ∙ ap (λ k. bit_xor k (esop_value xs word)) (xor_self (share x word)) ∙ xor_zero_l _)
value-remove (x ∷ xs) (suc i) word h =
    ap (bit_xor (share x word)) (value-remove xs i word (omega arith)) ∙ xor_swap (share x word) _ (esop_value xs word)
