-- A network followed from a word.
use Rattle.std.proofs.Common.{◌≡◌, ◌≢◌, ℕ, zero, suc, ◌+◌, ◌^◌, ◌<◌, ◌≤◌, Bool, true, false, cond, ◌&&◌, ◌||◌, ◌==◌, eqb, List, [], ◌∷◌, map, length, take, get_or, All, refl, sym, ap, ap₂, ◌∙◌, arith, inl, inr, subst}
use Rattle.std.proofs.lemmas.Bool.{false≢true, ne_eqb, eqb-true, cases_eq, or_parts}
use Rattle.std.proofs.lemmas.List.Elements.{All-head, All-tail, All-take}
use Rattle.std.proofs.lemmas.List.Sums.{fold_more}
use Rattle.std.proofs.lemmas.Map.Steps.{length-le_from_distinct_below}
use Rattle.std.proofs.Math.Pow.{pow_mono}
use Rattle.std.specs.List.{list_any, AllByRecursion, IsDistinct}
use Rattle.std.specs.Option.{option_or}
use Rattle.std.specs.Prelude.{Option, None, Some}
use Rattle.rv_gate.proofs.FirstAnswer.{none_first}
use Rattle.rv_gate.proofs.inside.Ones.{ones_of-lt}
use Rattle.rv_gate.specs.FirstAnswer.{first}
use Rattle.rv_gate.specs.Word.{ones_of}
use Rattle.rv_net.specs.Amplitude.{count_h}
use Rattle.rv_net.specs.Cyclotomic.{unity}
use Rattle.rv_net.specs.Op.{OpFitsIn, phase_of}
use Rattle.rv_net.specs.declared.op.Op.{Op}
use Rattle.rv_net.specs.declared.op.Op.TheVariants.{H}
use Rattle.rv_check.specs.Check.{agrees}
use Rattle.rv_check.specs.Reduced.{first_large_place, is_large, large_after}
use Rattle.rv_check.specs.declared.following.Followed.TheVariants.{TooLarge, Agrees}
use Rattle.rv_check.specs.declared.member.Member.{Member}
use Rattle.rv_check.specs.inside.Followed.{answer, followed, is_only}
use Rattle.rv_check.specs.inside.Kept.{Kept, NotLarge, has_large, kept_after, kept_more, kept_start, mixed, moved, reduced_kept}
use Rattle.rv_check.specs.inside.Small.{AreSmall}
use Rattle.rv_check.specs.inside.Stands.{Apart, Fresh, On, Stands}
use Rattle.rv_check.proofs.inside.Deciding.{agrees_is, large_is}
use Rattle.rv_check.proofs.inside.Multiples.{large_turned, small_from}
use Rattle.rv_check.proofs.inside.Small.{small_wider}
use Rattle.rv_check.proofs.inside.Sparse.{Word}
use Rattle.rv_check.proofs.inside.Stands.{stands_after}
use Rattle.rv_check.proofs.Words.{same_from_ones}

-- ---- there are no more members than words

key : Member → ℕ
key m = ones_of m.word

distinct_from : (n : ℕ) (m : Member) (ms : List Member) → length m.word ≡ n → On n ms → Fresh m.word ms → AllByRecursion (λ y. eqb (key m) y ≡ false) (map key ms)
unfolding key
distinct_from n m [] e on h = tt
distinct_from n m (o ∷ ms) e on h = (
  ne_eqb _ _ (λ same. h.0 (same_from_ones o.word m.word (All-head (λ m. length m.word ≡ n) o ms on ∙ sym e) (sym same))),
  distinct_from n m ms e (All-tail (λ m. length m.word ≡ n) o ms on) h.1,
)

distinct_keys : (n : ℕ) (ms : List Member) → On n ms → Apart ms → IsDistinct eqb (map key ms)
unfolding key IsDistinct
distinct_keys n [] on h = tt
distinct_keys n (m ∷ ms) on h =
    let others = All-tail (λ m. length m.word ≡ n) m ms on in
    (distinct_from n m ms (All-head (λ m. length m.word ≡ n) m ms on) others h.0, distinct_keys n ms others h.1)

keys_below : (n : ℕ) (ms : List Member) → On n ms → (q : ℕ) → list_any (eqb q) (map key ms) ≡ true → q < 2 ^ n
unfolding key
keys_below n [] on q e = absurd (false≢true e)
keys_below n (m ∷ ms) on q e = go (eqb q (ones_of m.word)) refl e (keys_below n ms (All-tail (λ m. length m.word ≡ n) m ms on) q) where
  go : (b : Bool) → eqb q (ones_of m.word) ≡ b → (b || list_any (eqb q) (map key ms)) ≡ true → (list_any (eqb q) (map key ms) ≡ true → q < 2 ^ n) → q < 2 ^ n
  go true is e rest =
      let lt = ones_of-lt m.word in
      let own : 2 ^ length m.word ≡ 2 ^ n = ap (λ k. 2 ^ k) (All-head (λ m. length m.word ≡ n) m ms on) in
      let same = eqb-true q (ones_of m.word) is in
      omega arith
  go false is e rest = rest e

length-keys : (ms : List Member) → length (map key ms) ≡ length ms
length-keys [] = refl
length-keys (m ∷ ms) = ap suc (length-keys ms)

pub members_few : (n : ℕ) (ms : List Member) → On n ms → Apart ms → length ms ≤ 2 ^ n
members_few n ms on apart =
    let le = length-le_from_distinct_below (map key ms) (2 ^ n) (distinct_keys n ms on apart) (keys_below n ms on) in
    omega (arith, le, length-keys ms)

pub members_few_ten : (n : ℕ) (ms : List Member) → n ≤ 10 → On n ms → Apart ms → length ms ≤ 2 ^ 10
members_few_ten n ms few on apart =
    let le : 2 ^ n ≤ 2 ^ 10 = pow_mono few in
    omega (arith, le, members_few n ms on apart)

-- ---- small members

all_small : (ms : List Member) → list_any (λ m. is_large m.value) ms ≡ false → (k : ℕ) (d : Member) → k < length ms → AreSmall (2 ^ 100) (get_or ms k d).value
all_small [] e k d lt = absurd (omega (arith, lt))
all_small (m ∷ ms) e zero d lt = small_from m.value (or_parts (is_large m.value) _ e).0
all_small (m ∷ ms) e (suc k) d lt = all_small ms (or_parts (is_large m.value) _ e).1 k d (omega (arith, lt))

pub members_small : (ms : List Member) → has_large ms ≡ false → All (λ m. AreSmall (2 ^ 100) m.value) ms
unfolding has_large
members_small ms e k d lt = all_small ms e k d lt

pub large_moved : (op : Op) (ms : List Member) → has_large (map (moved op) ms) ≡ has_large ms
unfolding has_large
large_moved op [] = refl
large_moved op (m ∷ ms) = ap₂ (λ a b. a || b) (large_turned (phase_of op m.word) m.value) (large_moved op ms)

-- ---- place by place

pub not_large_start : (ops : List Op) (x : Word) → NotLarge ops x 0
unfolding NotLarge has_large kept_after unity
not_large_start ops x = refl

pub kept_next : (ops : List Op) (x : Word) (place : ℕ) (d : Op) → place < length ops → kept_after (take (place + 1) ops) x ≡ kept_more (kept_after (take place ops) x) (get_or ops place d)
unfolding kept_after
kept_next ops x place d lt = fold_more kept_more (kept_start x) ops place d lt

pub kept_first : (ops : List Op) (x : Word) → kept_after (take 0 ops) x ≡ kept_start x
unfolding kept_after
kept_first ops x = refl

pub not_large_more : (ops : List Op) (x : Word) (place : ℕ) → ((p : ℕ) → p ≤ place → NotLarge ops x p) → NotLarge ops x (place + 1) → (p : ℕ) → p ≤ place + 1 → NotLarge ops x p
not_large_more ops x place before next p le = elim (cases_eq p (place + 1)) as (λ _. NotLarge ops x p) [
  | inl e ↦ rw e next
  | inr ne ↦ before p (omega arith)
]

pub stands_at : (ops : List Op) (x : Word) (place : ℕ) → All (λ op. OpFitsIn op (length x)) ops → Stands (take place ops) x (kept_after (take place ops) x)
stands_at ops x place fits = stands_after (take place ops) x (All-take (λ op. OpFitsIn op (length x)) place ops fits)

count_h-le : (ops : List Op) → count_h ops ≤ length ops
unfolding count_h
count_h-le [] = omega arith
count_h-le (H q ∷ ops) = omega (arith, count_h-le ops)
count_h-le (o ∷ ops) = omega (arith, count_h-le ops)

pub exponent_few : (ops : List Op) (x : Word) (k : Kept) → Stands ops x k → k.exponent ≤ length ops
exponent_few ops x k s = omega (arith, s.total, count_h-le ops)

-- what is told at a place
told_at : (ops : List Op) (x : Word) (place : ℕ) (b : Bool) → All (λ op. OpFitsIn op (length x)) ops → has_large (kept_after (take place ops) x).members ≡ b
    → large_after ops x place ≡ cond b (Some place) None
unfolding has_large
told_at ops x place b fits e = ap (λ c. cond c (Some place) None) (large_is (take place ops) x _ (stands_at ops x place fits) ∙ e)

-- the first answer, where those before have none
pub first_answer : {A : Type 0} (f : ℕ → Option A) (k m i : ℕ) (a : A) → k ≤ i → i < k + m → ((p : ℕ) → k ≤ p → p < i → f p ≡ None) → f i ≡ Some a → first f k m ≡ Some a
unfolding first
first_answer f k zero i a le lt none is = absurd (omega arith)
first_answer f k (suc m) i a le lt none is = elim (cases_eq k i) [
  | inl e ↦ ap (λ o. option_or o (first f (k + 1) m)) (ap f e ∙ is)
  | inr ne ↦
      ap (λ o. option_or o (first f (k + 1) m)) (none k (omega arith) (omega arith))
      ∙ first_answer f (k + 1) m i a (omega arith) (omega arith) (λ p g h. none p (omega arith) h) is
]

pub followed_large : (ops : List Op) (x image : Word) (place : ℕ) → All (λ op. OpFitsIn op (length x)) ops → ((p : ℕ) → p ≤ place → NotLarge ops x p) → place < length ops
    → has_large (kept_after (take (place + 1) ops) x).members ≡ true → followed ops x image ≡ TooLarge (place + 1)
unfolding first_large_place NotLarge
followed_large ops x image place fits before lt large =
    ap (λ o. answer o (agrees ops x image))
    (first_answer (large_after ops x) 0 (length ops + 1) (place + 1) (place + 1) (omega arith) (omega arith)
    (λ p g h. told_at ops x p false fits (before p (omega arith))) (told_at ops x (place + 1) true fits large))

pub followed_done : (ops : List Op) (x image : Word) → All (λ op. OpFitsIn op (length x)) ops → ((p : ℕ) → p ≤ length ops → NotLarge ops x p) → length image ≡ length x
    → followed ops x image ≡ Agrees (((kept_after ops x).exponent == 0) && is_only image (kept_after ops x).members)
unfolding first_large_place NotLarge
followed_done ops x image fits before lines =
    grind (arith, none_first, large_after, told_at, agrees_is, kept_after, stands_after)

-- an operation that is no H
pub kept_more-moved : (op : Op) (k : Kept) → ((q : ℕ) → op ≡ H q → ⊥) → kept_more k op ≡ record k { members = map (moved op) k.members }
unfolding kept_more
kept_more-moved op k h = grind arith

pub kept_more-turned : (q : ℕ) (k : Kept) → kept_more k (H q) ≡ reduced_kept (k.exponent + 1) (mixed q k.members)
unfolding kept_more
kept_more-turned q k = let e : suc k.exponent ≡ k.exponent + 1 = omega arith in ap (λ n. reduced_kept n (mixed q k.members)) e

pub moved_small : (op : Op) (ms : List Member) → list_any (λ m. is_large m.value) ms ≡ false → list_any (λ m. is_large m.value) (map (moved op) ms) ≡ false
unfolding has_large
moved_small op ms e = large_moved op ms ∙ e

pub fits_one : (op : Op) (n : ℕ) (ms : List Member) → OpFitsIn op n → On n ms → All (λ m. OpFitsIn op (length m.word)) ms
fits_one op n ms fits on k d lt = rw (on k d lt) fits

pub small_enough : (ms : List Member) → list_any (λ m. is_large m.value) ms ≡ false → All (λ m. AreSmall (2 ^ 120) m.value) ms
unfolding has_large
small_enough ms e k d lt = small_wider (2 ^ 100) (2 ^ 120) _ (omega arith) (members_small ms e k d lt)

pub small_turn : (ms : List Member) → list_any (λ m. is_large m.value) ms ≡ false → All (λ m. AreSmall (2 ^ 100) m.value) ms
unfolding has_large
small_turn ms e = members_small ms e

-- ---- at a place of the loop, where the code's vector is that of the first operations

pub not_large_from : (ops : List Op) (x : Word) (place : ℕ) (k : Kept) → k ≡ kept_after (take place ops) x → list_any (λ m. is_large m.value) k.members ≡ false → NotLarge ops x place
unfolding NotLarge has_large
not_large_from ops x place k is e = ap (λ l. list_any (λ m. is_large m.value) l.members) (sym is) ∙ e

pub stands_kept : (ops : List Op) (x : Word) (place : ℕ) (k : Kept) → k ≡ kept_after (take place ops) x → All (λ op. OpFitsIn op (length x)) ops → Stands (take place ops) x k
stands_kept ops x place k is fits = subst (λ l. Stands (take place ops) x l) (sym is) (stands_at ops x place fits)

pub not_large_init : (ops : List Op) (x : Word) (p : ℕ) → p ≤ 0 → NotLarge ops x p
not_large_init ops x zero le = not_large_start ops x
not_large_init ops x (suc p) le = absurd (omega arith)

pub zero_and : (n : ℕ) (b : Bool) → n ≡ 0 → b ≡ ((n == 0) && b)
zero_and n b h = grind arith

pub not_zero_and : (n : ℕ) (b : Bool) → n ≢ 0 → (n == 0) ≡ ((n == 0) && b)
not_zero_and n b ne = ne_eqb n 0 ne ∙ sym (ap (λ c. c && b) (ne_eqb n 0 ne))
