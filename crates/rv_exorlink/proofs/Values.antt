-- The value of a list after cubes have come in and gone out.
use Rattle.std.proofs.Common.{◌≡◌, ℕ, zero, suc, ◌-◌, ◌<◌, Bool, List, [], ◌∷◌, ◌++◌, length, get_or, set, take, refl, sym, ◌∙◌, ap, inl, inr, arith, length-set, get_or-set_same, get_or-set_other}
use Rattle.std.specs.Prelude.{bit_xor, All}
use Rattle.std.specs.List.{swap_remove}
use Rattle.std.proofs.lemmas.Bool.{cases_eq}
use Rattle.std.proofs.lemmas.Nat.Bits.{bit_at_xor, same_from_bits}
use Rattle.std.proofs.lemmas.List.Elements.{All-take, All-set, All-get_or}
use Rattle.rv_pla.specs.declared.cube.Cube.{Cube}
use Rattle.rv_cube.specs.Esop.{share, esop_value}
use Rattle.rv_cube.proofs.Sums.{xor_swap}
use Rattle.rv_gate.proofs.LineSets.{bit_xor-back}

-- ---- sums without carry

-- x goes, and l comes
xor_exchange : (x l v : ℕ) → bit_xor l (bit_xor x v) ≡ bit_xor (bit_xor x l) v
xor_exchange x l v =
    same_from_bits _ _ (λ i.
    let s = bit_at_xor l (bit_xor x v) i in
    let t = bit_at_xor x v i in
    let u = bit_at_xor (bit_xor x l) v i in
    let w = bit_at_xor x l i in
    omega arith)

pub xor_middle : (c x v : ℕ) → bit_xor (bit_xor c x) (bit_xor x v) ≡ bit_xor c v
xor_middle c x v =
    same_from_bits _ _ (λ i.
    let s = bit_at_xor (bit_xor c x) (bit_xor x v) i in
    let t = bit_at_xor c x i in
    let u = bit_at_xor x v i in
    let w = bit_at_xor c v i in
    omega arith)

-- at a step of a way: next and the sum of both give what the step began with
pub xor_walked : (next at v : ℕ) → bit_xor next (bit_xor (bit_xor at next) v) ≡ bit_xor at v
xor_walked next at v =
    same_from_bits _ _ (λ i.
    let s = bit_at_xor next (bit_xor (bit_xor at next) v) i in
    let t = bit_at_xor (bit_xor at next) v i in
    let u = bit_at_xor at next i in
    let w = bit_at_xor at v i in
    omega arith)

pub xor_cancel : (l t s : ℕ) → bit_xor l t ≡ bit_xor l s → t ≡ s
xor_cancel l t s e = sym (bit_xor-back l t) ∙ ap (bit_xor l) e ∙ bit_xor-back l s

-- ---- lists

pub value-push : (cubes : List Cube) (c : Cube) (word : List Bool)
    → esop_value (cubes ++ c ∷ []) word ≡ bit_xor (share c word) (esop_value cubes word)
unfolding esop_value
value-push [] c word = refl
value-push (x ∷ rest) c word =
    ap (bit_xor (share x word)) (value-push rest c word) ∙ xor_swap (share x word) (share c word) (esop_value rest word)

value-set : (cubes : List Cube) (i : ℕ) (c d : Cube) (word : List Bool) → i < length cubes
    → esop_value (set cubes i c) word
    ≡ bit_xor (bit_xor (share (get_or cubes i d) word) (share c word)) (esop_value cubes word)
unfolding esop_value
value-set [] i c d word h = absurd (omega arith)
value-set (x ∷ xs) zero c d word h =
    let s : ℕ = share x word in
    let t : ℕ = share c word in
    let v : ℕ = esop_value xs word in
    ap (bit_xor t) (sym (bit_xor-back s v)) ∙ xor_exchange s t (bit_xor s v)
value-set (x ∷ xs) (suc i) c d word h =
    ap (bit_xor (share x word)) (value-set xs i c d word (omega arith)) ∙ xor_swap (share x word) _ (esop_value xs word)

value-last : (n : ℕ) (cubes : List Cube) (d : Cube) (word : List Bool) → length cubes ≡ suc n
    → esop_value cubes word ≡ bit_xor (share (get_or cubes n d) word) (esop_value (take n cubes) word)
unfolding esop_value
value-last n [] d word h = absurd (omega arith)
value-last zero (x ∷ []) d word h = refl
value-last zero (x ∷ y ∷ rest) d word h = absurd (omega arith)
value-last (suc n) (x ∷ rest) d word h =
    ap (bit_xor (share x word)) (value-last n rest d word (omega arith))
    ∙ xor_swap (share x word) (share (get_or rest n d) word) (esop_value (take n rest) word)

get_or-moved : (cubes : List Cube) (i n : ℕ) (x y : Cube) → i < length cubes → n < length cubes → y ≡ get_or cubes n x
    → get_or (set cubes i y) n x ≡ y
get_or-moved cubes i n x y h l e =
    elim (cases_eq n i) [
      | inl same ↦ ap (λ k. get_or (set cubes i y) k x) same ∙ get_or-set_same cubes i y x h
      | inr ne ↦ get_or-set_other cubes i n y x ne ∙ sym e
    ]

pub value-swap_remove : (cubes : List Cube) (i : ℕ) (x : Cube) (word : List Bool) → i < length cubes
    → x ≡ get_or cubes i x
    → esop_value (swap_remove cubes i x) word ≡ bit_xor (share x word) (esop_value cubes word)
value-swap_remove cubes i x word h e =
    let n : ℕ = length cubes - 1 in
    let last : Cube = get_or cubes n x in
    let moved : List Cube = set cubes i last in
    let len = length-set cubes i last in
    let one : esop_value moved word ≡ bit_xor (share (get_or moved n x) word) (esop_value (take n moved) word) =
    value-last n moved x word (omega arith) in
    let two : esop_value moved word ≡ bit_xor (bit_xor (share (get_or cubes i x) word) (share last word))
    (esop_value cubes word) = value-set cubes i last x word h in
    let at : get_or moved n x ≡ last = get_or-moved cubes i n x last h (omega arith) refl in
    xor_cancel (share last word) (esop_value (take n moved) word) (bit_xor (share x word) (esop_value cubes word))
    (ap (λ c. bit_xor (share c word) (esop_value (take n moved) word)) (sym at)
    ∙ sym one ∙ two
    ∙ ap (λ c. bit_xor (bit_xor (share c word) (share last word)) (esop_value cubes word)) (sym e)
    ∙ sym (xor_exchange (share x word) (share last word) (esop_value cubes word)))

pub All-swap_remove : (P : Cube → Type 0) (cubes : List Cube) (i : ℕ) (x : Cube) → i < length cubes → All P cubes
    → All P (swap_remove cubes i x)
All-swap_remove P cubes i x h all =
    let n : ℕ = length cubes - 1 in
    All-take P n (set cubes i (get_or cubes n x))
    (All-set P cubes i (get_or cubes n x) (All-get_or P cubes n x (omega arith) all) all)
