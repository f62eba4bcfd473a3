-- How many flips there are, and how many controls each has.
use Rattle.std.proofs.Common.{◌≡◌, ℕ, zero, suc, ◌+◌, ◌-◌, ◌*◌, ◌/◌, ◌^◌, ◌≤◌, Bool, true, false, cond, ◌||◌, eqb, List, [], ◌∷◌, ◌++◌, length, take, reverse, nat_lt, All, refl, ◌∙◌, ap, inl, inr, arith, ne_eqb, length-append}
use Rattle.std.specs.Prelude.{bit_or}
use Rattle.std.proofs.lemmas.Bool.{cases_lt, lt-ltb, le-ltb}
use Rattle.std.proofs.lemmas.List.Sums.{sum_by-cons}
use Rattle.std.proofs.lemmas.List.FromFn.{length-range_with_len}
use Rattle.std.proofs.lemmas.List.{length-reverse, length-take-le}
use Rattle.std.proofs.lemmas.List.Elements.{All-nil, All-cons, All-append}
use Rattle.rv_gate.specs.Word.{has}
use Rattle.rv_gate.specs.Gate.{IsGate, FitsIn, IsFlipOn}
use Rattle.rv_gate.specs.declared.gate.Shape.{Shape}
use Rattle.rv_gate.specs.declared.gate.Shape.TheVariants.{Flip, Swap, Peres}
use Rattle.rv_gate.proofs.LineSets.{has-lines}
use Rattle.rv_mct.specs.declared.control.Control.{Control}
use Rattle.rv_mct.specs.declared.aux.Aux.{Aux}
use Rattle.rv_mct.specs.declared.aux.Aux.TheVariants.{Borrowed, Clean}
use Rattle.rv_mct.specs.Blocks.{rising, count, is_free, controls_of, count_lines, positive, both, ladder, clean_ladder, down_up, inner, down_up_twice, borrowed_ladder_over, borrowed_ladder, middle, below, from, halves, split, flips_of, long_flip, flip_block, block_of, decomposition_of, flip_wish, wish, added, borrowed_ladder_cost, long_cost, flip_cost, gate_cost, cost_of}
use Rattle.std.specs.List.{flat_map, range_with_len, sum_by}
use Rattle.rv_mct.specs.Extends.{IsPlain}
use Rattle.rv_mct.specs.inside.Long.{IsCut, Ready}
use Rattle.rv_gate.specs.Every.{Every}
use Rattle.rv_mct.proofs.Rising.{count_zero, count-suc}
use Rattle.rv_mct.proofs.inside.LongFlips.{length-controls_of, length-rising}
use Rattle.rv_mct.proofs.inside.Splits.{count_none, count_one, cut_of}
use Rattle.rv_mct.proofs.inside.Gates.{IsOwn, each_within, flips_own, gates_own, long_of, free_some, first_free}

-- ---- at most two controls

few_eq : (b n : ℕ) → count (λ x. eqb x b) n ≤ 1
few_eq b n = elim (cases_lt b n) [
  | inl lt ↦ omega (arith, count_one b n lt)
  | inr ge ↦ omega (arith, count_none (λ x. eqb x b) n (λ x lt. ne_eqb x b (λ e. omega arith)))
]

or_few : (p q : Bool) → cond {A = ℕ} (p || q) 1 0 ≤ cond p 1 0 + cond q 1 0
or_few p q = grind arith

count_or : (p q r : ℕ → Bool) (n : ℕ) → ((x : ℕ) → r x ≡ (p x || q x)) → count r n ≤ count p n + count q n
count_or p q r zero h = omega (arith, count_zero r)
count_or p q r (suc n) h = let hyp = count_or p q r n h in grind (arith, hyp, count-suc, or_few)

pub plain_both : (c d : Control) (t : ℕ) → IsPlain (both c d t)
plain_both c d t =
    omega (arith, count_or (λ x. eqb x c.line) (λ x. eqb x d.line) (has (bit_or (2 ^ c.line) (2 ^ d.line))) 64 (has-lines c.line d.line), few_eq c.line 64, few_eq d.line 64)

abbrev Plain : List Shape → Type 0
Plain = All IsPlain

around : (g : Shape) (middle : List Shape) → IsPlain g → Plain middle → Plain (g ∷ (middle ++ (g ∷ [])))
around g middle pg pm = All-cons IsPlain g _ pg (All-append IsPlain middle (g ∷ []) pm (All-cons IsPlain g [] pg (All-nil IsPlain)))

plain_ladder : (a b : Control) (more : List Control) (hs : List ℕ) (t : ℕ) → Plain (ladder a b more hs t)
unfolding ladder
plain_ladder a b [] hs t = All-cons IsPlain (both a b t) [] (plain_both a b t) (All-nil IsPlain)
plain_ladder a b (c ∷ more) [] t = All-nil IsPlain
plain_ladder a b (c ∷ more) (z ∷ hs) t = around (both a b z) (ladder (positive z) c more hs t) (plain_both a b z) (plain_ladder (positive z) c more hs t)

plain_down_up : (a b : Control) (more : List Control) (hs : List ℕ) (t : ℕ) → Plain (down_up a b more hs t)
unfolding down_up
plain_down_up a b [] hs t = All-cons IsPlain (both a b t) [] (plain_both a b t) (All-nil IsPlain)
plain_down_up a b (c ∷ more) [] t = All-nil IsPlain
plain_down_up a b (c ∷ more) (h ∷ hs) t = around (both c (positive h) t) (down_up a b more hs h) (plain_both c (positive h) t) (plain_down_up a b more hs h)

plain_inner : (a b : Control) (more : List Control) (hs : List ℕ) → Plain (inner a b more hs)
unfolding inner
plain_inner a b [] hs = All-nil IsPlain
plain_inner a b (c ∷ more) [] = All-nil IsPlain
plain_inner a b (c ∷ more) (h ∷ hs) = plain_down_up a b more hs h

plain_over : (cs : List Control) (free : List ℕ) (t : ℕ) → Plain (borrowed_ladder_over cs free t)
plain_over [] free t = All-nil IsPlain
plain_over (a ∷ []) free t = All-nil IsPlain
plain_over (a ∷ (b ∷ more)) free t =
    let ms : List Control = reverse more in
    let hs : List ℕ = reverse (take (length more) free) in
    All-append IsPlain (down_up a b ms hs t) (inner a b ms hs) (plain_down_up a b ms hs t) (plain_inner a b ms hs)

plain_borrowed_ladder : (n care want t : ℕ) → Plain (borrowed_ladder n care want t)
unfolding borrowed_ladder
plain_borrowed_ladder n care want t = plain_over (controls_of care want) (rising (is_free care t) n) t

plain_halves : (n care want t line h : ℕ) → Plain (halves n care want t line h)
plain_halves n care want t line h =
    All-append IsPlain (borrowed_ladder n (below care line) (below want line) h) _ (plain_borrowed_ladder n (below care line) (below want line) h)
    (plain_borrowed_ladder n (bit_or (from care line) (2 ^ h)) (bit_or (from want line) (2 ^ h)) t)

plain_split : (n care want t h : ℕ) → Plain (split n care want t h)
unfolding split
plain_split n care want t h =
    let H : List Shape = halves n care want t (middle care) h in
    All-append IsPlain H H (plain_halves n care want t (middle care) h) (plain_halves n care want t (middle care) h)

plain_clean_ladder : (cs : List Control) (n t : ℕ) → Plain (clean_ladder cs n t)
plain_clean_ladder [] n t = All-nil IsPlain
plain_clean_ladder (a ∷ []) n t = All-nil IsPlain
plain_clean_ladder (a ∷ (b ∷ more)) n t = plain_ladder a b more (range_with_len n (length more)) t

plain_cond : (b : Bool) (xs ys : List Shape) → Plain xs → Plain ys → Plain (cond b xs ys)
plain_cond true xs ys px py = px
plain_cond false xs ys px py = py

plain_long : (aux : Aux) (n extra care want t : ℕ) → Plain (long_flip aux n extra care want t)
plain_long Clean n extra care want t = plain_clean_ladder (controls_of care want) n t
plain_long Borrowed n extra care want t = grind (arith, plain_cond, nat_lt, plain_split, plain_borrowed_ladder)

pub plain_block : (aux : Aux) (n extra : ℕ) (g : Shape) → Plain (flip_block aux n extra g)
plain_block aux n extra (Flip care want t) = grind (arith, lt-ltb, le-ltb, plain_long)
plain_block aux n extra (Swap care want a b) = All-nil IsPlain
plain_block aux n extra (Peres a b c) = All-nil IsPlain

plain_flat_map : (made : Shape → List Shape) (gates : List Shape) → ((g : Shape) → Plain (made g)) → Plain (flat_map made gates)
plain_flat_map made [] h = All-nil IsPlain
plain_flat_map made (g ∷ rest) h = All-append IsPlain (made g) (flat_map made rest) (h g) (plain_flat_map made rest h)

pub plain_decomposition : (aux : Aux) (n extra : ℕ) (gates : List Shape) → All IsPlain (decomposition_of aux n extra gates)
plain_decomposition aux n extra gates =
    plain_flat_map (block_of aux n extra) gates (λ g. plain_flat_map (flip_block aux n extra) (flips_of g) (plain_block aux n extra))

-- ---- how many

length_around : (g : Shape) (middle : List Shape) → length (g ∷ (middle ++ (g ∷ []))) ≡ length middle + 2
length_around g middle = omega (arith, length-append middle (g ∷ []))

length_ladder : (a b : Control) (more : List Control) (hs : List ℕ) (t : ℕ) → length more ≡ length hs → length (ladder a b more hs t) ≡ 2 * length more + 1
unfolding ladder
length_ladder a b [] hs t e = omega arith
length_ladder a b (c ∷ more) [] t e = absurd (omega arith)
length_ladder a b (c ∷ more) (z ∷ hs) t e =
    omega (arith, length_around (both a b z) (ladder (positive z) c more hs t), length_ladder (positive z) c more hs t (omega arith))

length_down_up : (a b : Control) (more : List Control) (hs : List ℕ) (t : ℕ) → length more ≡ length hs → length (down_up a b more hs t) ≡ 2 * length more + 1
unfolding down_up
length_down_up a b [] hs t e = omega arith
length_down_up a b (c ∷ more) [] t e = absurd (omega arith)
length_down_up a b (c ∷ more) (h ∷ hs) t e =
    omega (arith, length_around (both c (positive h) t) (down_up a b more hs h), length_down_up a b more hs h (omega arith))

length_down_up_twice : (a b : Control) (more : List Control) (hs : List ℕ) (t : ℕ) → length more ≡ length hs → length (down_up_twice a b more hs t) ≡ borrowed_ladder_cost (length more + 2)
unfolding inner
length_down_up_twice a b more hs t h = grind (arith, length-append, down_up, length_down_up, borrowed_ladder_cost, le-ltb)

length_over : (cs : List Control) (free : List ℕ) (t : ℕ) → 2 ≤ length cs → length cs ≤ length free + 2 → length (borrowed_ladder_over cs free t) ≡ borrowed_ladder_cost (length cs)
length_over cs free t h h1 = grind (arith, length-reverse, length-take-le, length_down_up_twice, borrowed_ladder_cost)

length_borrowed_ladder : (n care want t : ℕ) → 2 ≤ count_lines care → count_lines care ≤ count (is_free care t) n + 2 → length (borrowed_ladder n care want t) ≡ borrowed_ladder_cost (count_lines care)
unfolding borrowed_ladder
length_borrowed_ladder n care want t some enough = grind (arith, length-controls_of, length-rising, is_free, length_over, controls_of, borrowed_ladder_cost)

length_split : (n care want t h : ℕ) → IsCut n care t (middle care) h → 3 ≤ count_lines care
    → length (split n care want t h) ≡ 2 * borrowed_ladder_cost ((count_lines care + 1) / 2) + 2 * borrowed_ladder_cost (count_lines care / 2 + 1)
unfolding split
length_split n care want t h c many = grind (arith, borrowed_ladder, bit_or, count_lines, borrowed_ladder_cost, length_borrowed_ladder, length-append)

length_clean_ladder : (cs : List Control) (n t : ℕ) → 2 ≤ length cs → length (clean_ladder cs n t) ≡ 2 * length cs - 3
length_clean_ladder cs n t h = grind (arith, length_ladder, range_with_len, length-range_with_len)

length_long : (aux : Aux) (n extra care want t : ℕ) → Ready aux n extra care want t → 3 ≤ count_lines care
    → length (long_flip aux n extra care want t) ≡ long_cost aux (count (is_free care t) (n + extra)) (count_lines care)
length_long Clean n extra care want t r many =
    let l1 = length-controls_of care want in
    length_clean_ladder (controls_of care want) n t (omega arith) ∙ ap (λ k. 2 * k - 3) l1
length_long Borrowed n extra care want t r many =
    let N : ℕ = n + extra in
    let f = first_free (is_free care t) N (free_some n extra care want t r many) in
    elim (cases_lt (count (is_free care t) N + 2) (count_lines care)) [
      | inl lt ↦
          rw (lt-ltb (count (is_free care t) N + 2) (count_lines care) lt)
          (length_split N care want t _ (cut_of N care t _ (long_of Borrowed n extra care want t r) many f.0 f.1) many)
      | inr ge ↦ rw (le-ltb (count (is_free care t) N + 2) (count_lines care) ge) (length_borrowed_ladder N care want t (omega arith) ge)
    ]

pub length_block : (aux : Aux) (n extra : ℕ) (g : Shape) → n + extra ≤ 64 → IsFlipOn n g → flip_wish aux n g ≤ extra → length (flip_block aux n extra g) ≡ flip_cost aux (n + extra) g
length_block aux n extra (Flip care want t) few own enough = elim (cases_lt (count_lines care) 3) [
  | inl lt ↦ rw (lt-ltb (count_lines care) 3 lt) refl
  | inr ge ↦ rw (le-ltb (count_lines care) 3 ge) (length_long aux n extra care want t (record { few = few; own = own; enough = enough }) ge)
]
length_block aux n extra (Swap care want a b) few own enough = refl
length_block aux n extra (Peres a b c) few own enough = refl

length_made : (made : Shape → List Shape) (cost : Shape → ℕ) (gates : List Shape) → Every (λ g. length (made g) ≡ cost g) gates → length (flat_map made gates) ≡ sum_by cost gates
length_made made cost [] h = refl
length_made made cost (g ∷ rest) h = omega (arith, length-append (made g) (flat_map made rest), sum_by-cons cost g rest, h.0, length_made made cost rest h.1)

pub length_gate : (aux : Aux) (n extra : ℕ) (g : Shape) → n + extra ≤ 64 → IsOwn n g → wish aux n g ≤ extra → length (block_of aux n extra g) ≡ gate_cost aux (n + extra) g
length_gate aux n extra g few own enough =
    length_made (flip_block aux n extra) (flip_cost aux (n + extra)) (flips_of g)
    (each_within (flip_wish aux n) (IsFlipOn n) _ extra (λ f is. length_block aux n extra f few is) (flips_of g) (flips_own g n (omega arith) own.0 own.1) enough)

pub length_decomposition : (aux : Aux) (n extra : ℕ) (gates : List Shape) → n + extra ≤ 64 → All IsGate gates → All (λ g. FitsIn g n) gates → added aux n gates ≤ extra
    → length (decomposition_of aux n extra gates) ≡ cost_of aux (n + extra) gates
length_decomposition aux n extra gates few valid fitting enough =
    length_made (block_of aux n extra) (gate_cost aux (n + extra)) gates
    (each_within (wish aux n) (IsOwn n) _ extra (λ g own. length_gate aux n extra g few own) gates (gates_own n gates valid fitting) enough)
