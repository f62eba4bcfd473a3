-- What a gate stands for, and what a decomposition keeps.
use Rattle.std.proofs.lemmas.Grind.{common_steps}
use Rattle.std.proofs.Common.{◌≡◌, ◌≢◌, ℕ, ◌+◌, ◌-◌, ◌^◌, ◌<◌, ◌≤◌, Bool, true, false, not, cond, ◌&&◌, ◌||◌, eqb, List, [], ◌∷◌, ◌++◌, length, get_or, nat_lt, set, All, refl, sym, ◌∙◌, ap, inl, inr, arith, ne_eqb, get_or-set_same, get_or-set_other, length-set, length-append}
use Rattle.std.specs.Prelude.{bit_or}
use Rattle.std.proofs.lemmas.Bool.{cases_eq, cases_lt, false≢true, lt-ltb, le-ltb}
use Rattle.std.proofs.lemmas.List.{set-set, set_comm, set-get_or, get_or-append_right}
use Rattle.std.proofs.lemmas.List.Elements.{All-head, All-tail}
use Rattle.std.proofs.Math.Nat.{le-max_left, le-max_right}
use Rattle.rv_gate.specs.Word.{has, bit_of}
use Rattle.rv_gate.specs.Gate.{holds, exchanged, xor, act, run, flip_under, FitsIn, IsGate, IsFlipOn}
use Rattle.rv_gate.specs.declared.gate.Shape.{Shape}
use Rattle.rv_gate.specs.declared.gate.Shape.TheVariants.{Flip, Swap, Peres}
use Rattle.rv_gate.proofs.inside.GateLemmas.{holds-set, flip_if, length-act, run-append, fits_flip, fits_flip_care, fits_swap_a, fits_swap_b, fits_peres_a, fits_peres_b, fits_peres_c}
use Rattle.rv_gate.proofs.Longer.{act_append}
use Rattle.rv_gate.proofs.InverseLemmas.{holds_one_line, holds_two_lines}
use Rattle.rv_gate.proofs.LineSets.{has-line, has-lines, has-or, has-with_line, with_other}
use Rattle.rv_mct.specs.declared.aux.Aux.{Aux}
use Rattle.rv_mct.specs.declared.aux.Aux.TheVariants.{Borrowed, Clean}
use Rattle.rv_mct.specs.declared.control.Control.{Control}
use Rattle.rv_gate.specs.Greatest.{greatest}
use Rattle.rv_mct.specs.Blocks.{both, wanted_place, rising, count, is_free, count_lines, flips_of, long_flip, flip_block, block_of, decomposition_of, flip_wish, wish, added}
use Rattle.std.specs.List.{flat_map}
use Rattle.rv_mct.specs.Extends.{MayHold, Extends}
use Rattle.rv_mct.specs.inside.Long.{IsLong, Ready}
use Rattle.rv_gate.specs.Every.{Every}
use Rattle.rv_mct.specs.inside.LadderLines.{In, IsRung}
use Rattle.rv_mct.proofs.inside.LongFlips.{length-rising, in_rising, not_within, run_borrowed_ladder, run_clean_ladder}
use Rattle.rv_mct.proofs.inside.Ladders.{free_two}
use Rattle.rv_mct.proofs.inside.Splits.{holds_with, count_some, run_split}
use Rattle.rv_gate.proofs.Bits.{xor_comm}

-- ---- the flips of a gate

greatest_one : {X : Type 0} (f : X → ℕ) (x : X) → greatest f (x ∷ []) ≡ f x
unfolding greatest
greatest_one f x = omega arith

pub wish_of_flip : (aux : Aux) (lines care want target : ℕ) (gate : Shape) → gate ≡ Flip care want target → wish aux lines gate ≡ flip_wish aux lines gate
wish_of_flip aux lines care want target gate is = rw is (greatest_one (flip_wish aux lines) (Flip care want target))

pub own_under : (n a t : ℕ) → a < n → t < n → a ≢ t → n ≤ 64 → IsFlipOn n (flip_under (2 ^ a) t)
own_under n a t la lt other few =
    (refl, (omega arith, has-line a t ∙ ne_eqb t a (λ e. other (sym e)), λ line on. on), λ line on. grind (arith, has-line))

-- under two controls
fits_two : (n a b t want : ℕ) → a < n → b < n → t < n → FitsIn (Flip (bit_or (2 ^ a) (2 ^ b)) want t) n
fits_two n a b t want la lb lt line on = grind (arith, has-lines)

pub own_two : (n a b t : ℕ) → a < n → b < n → t < n → a ≢ t → b ≢ t → n ≤ 64 → IsFlipOn n (flip_under (bit_or (2 ^ a) (2 ^ b)) t)
own_two n a b t la lb lt ot1 ot2 few =
    (refl, (omega arith, free_two a b t (λ e. ot1 (sym e)) (λ e. ot2 (sym e)), λ line on. on), fits_two n a b t (bit_or (2 ^ a) (2 ^ b)) la lb lt)

or_both : (p q r s : Bool) → (p ≡ true → r ≡ true) → (q ≡ true → s ≡ true) → (p || q) ≡ true → (r || s) ≡ true
or_both p q r s h k on = grind arith

pub middle_gate : (care want a b : ℕ) → IsGate (Swap care want a b) → IsGate (Flip (bit_or care (2 ^ a)) (bit_or want (2 ^ a)) b)
middle_gate care want a b is = (
  is.1,
  with_other care a b (λ e. is.2 (sym e)) ∙ is.4,
  λ line on. has-with_line care a line ∙ or_both _ _ _ _ (is.5 line) (λ at. at) (sym (has-with_line want a line) ∙ on),
)

own_middle : (n care want a b : ℕ) → IsGate (Swap care want a b) → FitsIn (Swap care want a b) n → IsFlipOn n (Flip (bit_or care (2 ^ a)) (bit_or want (2 ^ a)) b)
own_middle n care want a b is fits =
    (refl, middle_gate care want a b is, λ line on. fits line (ap (λ t. t || eqb line b) (sym (has-with_line care a line)) ∙ on))

pub flips_own : (g : Shape) (n : ℕ) → n ≤ 64 → IsGate g → FitsIn g n → Every (IsFlipOn n) (flips_of g)
flips_own (Flip care want target) n few is fits = ((refl, is, fits), tt)
flips_own (Swap care want a b) n few is fits =
    let g : Shape = Swap care want a b in
    let la = fits_swap_a g care want a b n refl fits in
    let lb = fits_swap_b g care want a b n refl fits in
    let first : IsFlipOn n (flip_under (2 ^ b) a) = own_under n b a lb la (λ e. is.2 (sym e)) few in
    (first, (own_middle n care want a b is fits, (first, tt)))
flips_own (Peres a b c) n few is fits =
    let g : Shape = Peres a b c in
    let la = fits_peres_a g a b c n refl fits in
    let lb = fits_peres_b g a b c n refl fits in
    let lc = fits_peres_c g a b c n refl fits in
    (own_two n a b c la lb lc is.4 is.5 few, (own_under n a b la lb is.3 few, tt))

swap_on : (p q : Bool) → (xor (xor q p) q ≡ p) × (xor (xor (xor q p) q) (xor q p) ≡ q)
swap_on p q = grind arith

swap_off : (p q : Bool) → (xor false q ≡ q) × (xor (xor false q) (xor q p) ≡ p)
swap_off p q = grind arith

-- the bits of two lines after the three flips
swapped : (h : Bool) (word : List Bool) (a b : ℕ)
    → set (set word a (xor (xor (h && xor (bit_of word b) (bit_of word a)) (bit_of word b)) (xor (bit_of word b) (bit_of word a)))) b (xor (h && xor (bit_of word b) (bit_of word a)) (bit_of word b))
    ≡ cond h (exchanged word a b) word
swapped h word a b = grind (arith, swap_on, bit_of, swap_off, set-get_or)

under_one : (a t : ℕ) (word : List Bool) → a < length word → act (flip_under (2 ^ a) t) word ≡ set word t (xor (bit_of word a) (bit_of word t))
under_one a t word la = flip_if (holds (2 ^ a) (2 ^ a) word) word t ∙ ap (λ z. set word t (xor z (bit_of word t))) (holds_one_line a word la)

pub run_flips : (g : Shape) (word : List Bool) → IsGate g → FitsIn g (length word) → run (flips_of g) word ≡ act g word
run_flips (Flip care want target) word is fits = refl
run_flips (Swap care want a b) word is fits =
    let g : Shape = Swap care want a b in
    let la = fits_swap_a g care want a b (length word) refl fits in
    let lb = fits_swap_b g care want a b (length word) refl fits in
    let ba : b ≢ a = λ e. is.2 (sym e) in
    let h : Bool = holds care want word in
    let p : Bool = bit_of word a in
    let q : Bool = bit_of word b in
    let s : Bool = xor q p in
    let v1 : List Bool = set word a s in
    let l1 = length-set word a s in
    let middle : Shape = Flip (bit_or care (2 ^ a)) (bit_or want (2 ^ a)) b in
    let y : Bool = xor (h && s) q in
    let v2 : List Bool = set v1 b y in
    let l2 = length-set v1 b y in
    let first : act (flip_under (2 ^ b) a) word ≡ v1 = under_one b a word lb in
    let second : act middle v1 ≡ v2 =
    flip_if _ v1 b
    ∙ ap (λ z. set v1 b (xor z (bit_of v1 b)))
    (holds_with care want a v1 (omega arith) is.3 ∙ ap (λ z. z && bit_of v1 a) (holds-set care want a word s is.3) ∙ ap (λ z. h && z) (get_or-set_same word a s false la))
    ∙ ap (λ z. set v1 b (xor (h && s) z)) (get_or-set_other word a b s false ba) in
    let third : act (flip_under (2 ^ b) a) v2 ≡ set v2 a (xor y s) =
    under_one b a v2 (omega arith)
    ∙ ap (λ z. set v2 a (xor z (bit_of v2 a))) (get_or-set_same v1 b y false (omega arith))
    ∙ ap (λ z. set v2 a (xor y z)) (get_or-set_other v1 b a y false is.2 ∙ get_or-set_same word a s false la) in
    ap (λ w. act (flip_under (2 ^ b) a) (act middle w)) first
    ∙ ap (act (flip_under (2 ^ b) a)) second
    ∙ third
    ∙ set_comm v1 b a y (xor y s) ba
    ∙ ap (λ w. set w b y) (set-set word a s (xor y s))
    ∙ swapped h word a b
run_flips (Peres a b c) word is fits =
    let g : Shape = Peres a b c in
    let la = fits_peres_a g a b c (length word) refl fits in
    let lb = fits_peres_b g a b c (length word) refl fits in
    let x : Bool = bit_of word a in
    let y : Bool = bit_of word b in
    let z : Bool = bit_of word c in
    let v : List Bool = set word c (xor (x && y) z) in
    let l = length-set word c (xor (x && y) z) in
    let first : act (flip_under (bit_or (2 ^ a) (2 ^ b)) c) word ≡ v =
    flip_if _ word c ∙ ap (λ k. set word c (xor k z)) (holds_two_lines a b word la lb) in
    ap (act (flip_under (2 ^ a) b)) first
    ∙ under_one a b v (omega arith)
    ∙ ap (λ k. set v b (xor k (bit_of v b))) (get_or-set_other word c a _ false is.4)
    ∙ ap (λ k. set v b (xor x k)) (get_or-set_other word c b _ false is.5)
    ∙ set_comm word c b (xor (x && y) z) (xor x y) (λ e. is.5 (sym e))
    ∙ ap (set (set word b (xor x y)) c) (xor_comm (x && y) z)

-- ---- words with further lines

held_zero : (aux : Aux) (word held : List Bool) → aux ≡ Clean → MayHold aux held → (z : ℕ) → length word ≤ z → bit_of (word ++ held) z ≡ false
held_zero aux word held h h1 z h2 = grind (arith, common_steps, get_or-append_right)

-- ---- a flip

first_in : (xs : List ℕ) → 1 ≤ length xs → In (get_or xs 0 0) xs
first_in [] h = absurd (omega arith)
first_in (x ∷ xs) h = inl refl

pub long_of : (aux : Aux) (n extra care want target : ℕ) → Ready aux n extra care want target → IsLong (n + extra) care target
long_of aux n extra care want target r = grind (arith, fits_flip_care, fits_flip)

pub first_free : (p : ℕ → Bool) (n : ℕ) → 1 ≤ count p n → (get_or (rising p n) 0 0 < n) × (p (get_or (rising p n) 0 0) ≡ true)
first_free p n h = let l = length-rising p n in in_rising p n (get_or (rising p n) 0 0) (first_in (rising p n) (omega arith))

wanted_one : (m k : ℕ) → 3 ≤ m → k ≡ 0 → cond {A = ℕ} (nat_lt m 3) 0 (cond (eqb k 0) 1 0) ≡ 1
wanted_one m k many none = grind arith

-- with a line to borrow there is a free one
pub free_some : (n extra care want target : ℕ) → Ready Borrowed n extra care want target → 3 ≤ count_lines care → 1 ≤ count (is_free care target) (n + extra)
free_some n extra care want target r many =
    let lt : target < n = fits_flip _ care want target n refl r.own.2 in
    elim (cases_eq (count (is_free care target) n) 0) [
      | inl none ↦
          let some : 1 ≤ extra = omega (arith, r.enough, wanted_one (count_lines care) (count (is_free care target) n) many none) in
          let off = not_within care n n (fits_flip_care _ care want target n refl r.own.2) (omega arith) in
          count_some (is_free care target) (n + extra) n (omega arith) (ap (λ b. not (b || eqb n target)) off ∙ ap not (ne_eqb n target (λ e. omega arith)))
      | inr some ↦
          let f = first_free (is_free care target) n (omega arith) in count_some (is_free care target) (n + extra) _ (omega (arith, f.0)) f.1
    ]

run_long : (aux : Aux) (n extra care want target : ℕ) (word : List Bool) → Ready aux n extra care want target → 3 ≤ count_lines care → length word ≡ n + extra
    → (aux ≡ Clean → (z : ℕ) → n ≤ z → bit_of word z ≡ false) → run (long_flip aux n extra care want target) word ≡ act (Flip care want target) word
run_long Clean n extra care want target word r many len zeros =
    let e : count_lines care - 2 ≤ extra = r.enough in
    run_clean_ladder n extra care want target word r.few (fits_flip_care _ care want target n refl r.own.2) (fits_flip _ care want target n refl r.own.2) r.own.1.1 (omega arith) (omega arith) len (zeros refl)
run_long Borrowed n extra care want target word r many len zeros =
    let long = long_of Borrowed n extra care want target r in
    let f = first_free (is_free care target) (n + extra) (free_some n extra care want target r many) in
    elim (cases_lt (count (is_free care target) (n + extra) + 2) (count_lines care)) [
      | inl lt ↦ rw (lt-ltb (count (is_free care target) (n + extra) + 2) (count_lines care) lt) (run_split (n + extra) care want target _ word long many f.0 f.1 len)
      | inr ge ↦ rw (le-ltb (count (is_free care target) (n + extra) + 2) (count_lines care) ge) (run_borrowed_ladder (n + extra) care want target word long (omega arith) ge len)
    ]

-- what replaces one gate does as it does, whatever the added lines may hold
abbrev pub Works : Aux → ℕ → ℕ → (Shape → List Shape) → Shape → Type 0
Works aux n extra made g =
    (word held : List Bool) → length word ≡ n → length held ≡ extra → MayHold aux held → run (made g) (word ++ held) ≡ act g word ++ held

pub flip_works : (aux : Aux) (n extra : ℕ) (g : Shape) → n + extra ≤ 64 → IsFlipOn n g → flip_wish aux n g ≤ extra → Works aux n extra (flip_block aux n extra) g
flip_works aux n extra (Flip care want target) few own enough word held lw lh may =
    let g : Shape = Flip care want target in
    let both : List Bool = word ++ held in
    let l : length both ≡ n + extra = omega (arith, length-append word held) in
    let zeros : aux ≡ Clean → (z : ℕ) → n ≤ z → bit_of both z ≡ false = λ e z le. held_zero aux word held e may z (omega arith) in
    elim (cases_lt (count_lines care) 3) [
      | inl lt ↦ rw (lt-ltb (count_lines care) 3 lt) refl
      | inr ge ↦ rw (le-ltb (count_lines care) 3 ge) (run_long aux n extra care want target both (record { few = few; own = own; enough = enough }) ge l zeros)
    ]
    ∙ act_append g word held own.0 (rw lw own.2)
flip_works aux n extra (Swap care want a b) few own enough word held lw lh may = absurd (false≢true own.0)
flip_works aux n extra (Peres a b c) few own enough word held lw lh may = absurd (false≢true own.0)

pub flat_map_extends : (aux : Aux) (n extra : ℕ) (made : Shape → List Shape) (gates : List Shape) → Every (Works aux n extra made) gates → Extends aux n extra (flat_map made gates) gates
flat_map_extends aux n extra made [] works word held lw lh may = refl
flat_map_extends aux n extra made (g ∷ rest) works word held lw lh may = let hyp = flat_map_extends aux n extra made rest works.1 in grind (arith, hyp, run-append, length-act)

-- ---- gates

-- what holds of each that wants no more lines than there are
pub each_within : (wishes : Shape → ℕ) (K P : Shape → Type 0) (extra : ℕ) → ((g : Shape) → K g → wishes g ≤ extra → P g) → (xs : List Shape) → Every K xs → greatest wishes xs ≤ extra
    → Every P xs
unfolding greatest
each_within wishes K P extra each [] are enough = tt
each_within wishes K P extra each (g ∷ xs) are enough = let hyp = each_within wishes K P extra each xs are.1 in grind (arith, hyp, le-max_left, le-max_right)

abbrev pub IsOwn : ℕ → Shape → Type 0
IsOwn n g = IsGate g × FitsIn g n

pub gates_own : (n : ℕ) (gates : List Shape) → All IsGate gates → All (λ g. FitsIn g n) gates → Every (IsOwn n) gates
gates_own n [] valid fitting = tt
gates_own n (g ∷ rest) valid fitting =
    ((All-head IsGate g rest valid, All-head (λ h. FitsIn h n) g rest fitting), gates_own n rest (All-tail IsGate g rest valid) (All-tail (λ h. FitsIn h n) g rest fitting))

pub gate_works : (aux : Aux) (n extra : ℕ) (g : Shape) → n + extra ≤ 64 → IsOwn n g → wish aux n g ≤ extra → Works aux n extra (block_of aux n extra) g
gate_works aux n extra g few own enough word held lw lh may =
    flat_map_extends aux n extra (flip_block aux n extra) (flips_of g)
    (each_within (flip_wish aux n) (IsFlipOn n) _ extra (λ f is. flip_works aux n extra f few is) (flips_of g) (flips_own g n (omega arith) own.0 own.1) enough) word held lw lh may
    ∙ ap (λ w. w ++ held) (run_flips g word own.0 (rw lw own.1))

-- the whole circuit
pub extends : (aux : Aux) (n extra : ℕ) (gates : List Shape) → n + extra ≤ 64 → All IsGate gates → All (λ g. FitsIn g n) gates → added aux n gates ≤ extra
    → Extends aux n extra (decomposition_of aux n extra gates) gates
extends aux n extra gates few valid fitting enough =
    flat_map_extends aux n extra (block_of aux n extra) gates
    (each_within (wish aux n) (IsOwn n) _ extra (λ g own. gate_works aux n extra g few own) gates (gates_own n gates valid fitting) enough)

-- ---- flips with two controls

pub fits_both : (n : ℕ) (c d : Control) (t : ℕ) → IsRung n c d t → FitsIn (both c d t) n
fits_both n c d t r = fits_two n c.line d.line t (bit_or (wanted_place c) (wanted_place d)) r.first r.second r.target

place_part : (c : Control) (line : ℕ) → has (wanted_place c) line ≡ true → has (2 ^ c.line) line ≡ true
place_part c line on = grind arith

pub gate_both : (c d : Control) (t : ℕ) → IsRung 64 c d t → IsGate (both c d t)
gate_both c d t r = (
  r.target,
  free_two c.line d.line t r.not_first r.not_second,
  λ line on. has-or (2 ^ c.line) (2 ^ d.line) line ∙ or_both _ _ _ _ (place_part c line) (place_part d line) (sym (has-or (wanted_place c) (wanted_place d) line) ∙ on),
)
