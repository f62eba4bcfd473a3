-- Shuffled numbers are a permutation.
use Rattle.std.proofs.Common.{◌≡◌, ◌≢◌, ℕ, zero, suc, ◌+◌, ◌-◌, ◌%◌, ◌^◌, ◌<◌, ◌≤◌, List, [], ◌∷◌, ◌++◌, length, take, drop, get_or, set, ext_get_or, refl, sym, ◌∙◌, ap, inl, inr, arith, length-set, get_or-set_same, get_or-set_other, subst}
use Rattle.std.specs.Prelude.{◌⊎◌}
use Rattle.std.specs.List.{range_with_len, swap}
use Rattle.std.proofs.lemmas.Bool.{cases_eq, cases_lt}
use Rattle.std.proofs.lemmas.List.{get_or_append_left, get_or-append_right, length-append}
use Rattle.std.proofs.lemmas.List.Edits.{swap_is}
use Rattle.std.proofs.lemmas.List.FromFn.{get_or-range_with_len, length-range_with_len}
use Rattle.std.proofs.Math.Nat.{mod-lt}
use Rattle.rv_perm.specs.Perm.{IsEachOnce, IsPerm}
use Rattle.rv_perm.proofs.inside.Inverse.{place_once, written}
use Rattle.rv_flow.specs.Generator.{drawn, generated, shuffled}

-- ---- two places exchanged

abbrev exchanged : List ℕ → ℕ → ℕ → List ℕ
exchanged numbers a b = set (set numbers a (get_or numbers b 0)) b (get_or numbers a 0)

-- where stood what stands at x after a and b were exchanged
record Moved (numbers : List ℕ) (a b x : ℕ) : Type 0 where
  from : ℕ
  within : from < length numbers
  rule : ((x ≡ b) × (from ≡ a)) ⊎ ((x ≢ b) × (((x ≡ a) × (from ≡ b)) ⊎ ((x ≢ a) × (from ≡ x))))
  is : get_or (exchanged numbers a b) x 0 ≡ get_or numbers from 0

length-exchanged : (numbers : List ℕ) (a b : ℕ) → length (exchanged numbers a b) ≡ length numbers
length-exchanged numbers a b = length-set (set numbers a (get_or numbers b 0)) b (get_or numbers a 0) ∙ length-set numbers a (get_or numbers b 0)

moved : (numbers : List ℕ) (a b x : ℕ) → a < length numbers → b < length numbers → x < length numbers → Moved numbers a b x
moved numbers a b x a_in b_in x_in =
    let first : List ℕ = set numbers a (get_or numbers b 0) in
    elim (cases_eq x b) [
      | inl at_b ↦ record {
        from = a;
        within = a_in;
        rule = inl (at_b, refl);
        is = ap (λ k. get_or (exchanged numbers a b) k 0) at_b ∙ get_or-set_same first b (get_or numbers a 0) 0 (omega (arith, length-set numbers a (get_or numbers b 0)));
      }
      | inr not_b ↦ elim (cases_eq x a) [
        | inl at_a ↦ record {
          from = b;
          within = b_in;
          rule = inr (not_b, inl (at_a, refl));
          is = get_or-set_other first b x (get_or numbers a 0) 0 not_b ∙ ap (λ k. get_or first k 0) at_a ∙ get_or-set_same numbers a (get_or numbers b 0) 0 a_in;
        }
        | inr not_a ↦ record {
          from = x;
          within = x_in;
          rule = inr (not_b, inr (not_a, refl));
          is = get_or-set_other first b x (get_or numbers a 0) 0 not_b ∙ get_or-set_other numbers a x (get_or numbers b 0) 0 not_a;
        }
      ]
    ]

-- two numbers do not come from one place
apart : (numbers : List ℕ) (a b x y : ℕ) (mx : Moved numbers a b x) (my : Moved numbers a b y) → mx.from ≡ my.from → x ≡ y
apart numbers a b x y mx my same =
    elim mx.rule [
      | inl p ↦ elim my.rule [
        | inl q ↦ p.0 ∙ sym q.0
        | inr q ↦ elim q.1 [ inl at ↦ omega (arith, p.0, p.1, at.0, at.1, same) | inr none ↦ absurd (none.0 (sym none.1 ∙ sym same ∙ p.1)) ]
      ]
      | inr p ↦ elim p.1 [
        | inl at ↦ elim my.rule [
          | inl q ↦ omega (arith, at.0, at.1, q.0, q.1, same)
          | inr q ↦ elim q.1 [ inl there ↦ at.0 ∙ sym there.0 | inr none ↦ absurd (q.0 (sym none.1 ∙ sym same ∙ at.1)) ]
        ]
        | inr none ↦ elim my.rule [
          | inl q ↦ absurd (none.0 (sym none.1 ∙ same ∙ q.1))
          | inr q ↦ elim q.1 [ inl there ↦ absurd (p.0 (sym none.1 ∙ same ∙ there.1)) | inr other ↦ sym none.1 ∙ same ∙ other.1 ]
        ]
      ]
    ]

once_exchanged : (numbers : List ℕ) (a b : ℕ) → a < length numbers → b < length numbers → IsEachOnce numbers → IsEachOnce (exchanged numbers a b)
once_exchanged numbers a b a_in b_in once = (
  λ x x_in. (
      let m : Moved numbers a b x = moved numbers a b x a_in b_in (omega (arith, x_in, length-exchanged numbers a b)) in
      let below = once.0 m.from m.within in
      omega (arith, m.is, below, length-exchanged numbers a b)),
  λ x y less y_in same. (
      let mx : Moved numbers a b x = moved numbers a b x a_in b_in (omega (arith, less, y_in, length-exchanged numbers a b)) in
      let my : Moved numbers a b y = moved numbers a b y a_in b_in (omega (arith, y_in, length-exchanged numbers a b)) in
      let one : x ≡ y = apart numbers a b x y mx my (place_once numbers mx.from my.from once mx.within my.within (sym mx.is ∙ same ∙ my.is)) in
      omega (arith, less, one)),
)

once_swapped : (numbers : List ℕ) (a b : ℕ) → a < length numbers → b < length numbers → IsEachOnce numbers → IsEachOnce (swap numbers a b)
once_swapped numbers a b a_in b_in once = subst (λ (xs : List ℕ). IsEachOnce xs) (swap_is numbers a b 0 a_in b_in) (once_exchanged numbers a b a_in b_in once)

pub length-swap : (numbers : List ℕ) (a b : ℕ) → a < length numbers → b < length numbers → length (swap numbers a b) ≡ length numbers
length-swap numbers a b a_in b_in = ap length (sym (swap_is numbers a b 0 a_in b_in)) ∙ length-exchanged numbers a b

-- ---- all places, one after the other

pub shuffled_nothing : (state : ℕ) (numbers : List ℕ) → shuffled 0 state numbers ≡ numbers
unfolding shuffled
shuffled_nothing state numbers = refl

pub shuffled_more : (i j state : ℕ) (numbers : List ℕ) → i ≡ j + 1 → shuffled i state numbers ≡ shuffled j (drawn state) (swap numbers i (drawn state % (i + 1)))
unfolding shuffled
shuffled_more zero j state numbers is = absurd (omega arith)
shuffled_more (suc i) j state numbers is =
    let same : i ≡ j = omega arith in ap (λ k. shuffled k (drawn state) (swap numbers (suc i) (drawn state % (suc i + 1)))) same

-- as long as before, and each number once
record Shuffles (old new : List ℕ) : Type 0 where
  len : length new ≡ length old
  once : IsEachOnce new

shuffles : (i state : ℕ) (numbers : List ℕ) → i < length numbers → IsEachOnce numbers → Shuffles numbers (shuffled i state numbers)
unfolding shuffled
shuffles zero state numbers i_in once = record { len = refl; once = once }
shuffles (suc i) state numbers i_in once =
    let j : ℕ = drawn state % (suc i + 1) in
    let next : List ℕ = swap numbers (suc i) j in
    let lower : j < suc i + 1 = mod-lt (drawn state) {m = suc i + 1} (omega arith) in
    let len : length next ≡ length numbers = length-swap numbers (suc i) j i_in (omega arith) in
    let r : Shuffles next (shuffled i (drawn state) next) =
    shuffles i (drawn state) next (omega arith) (once_swapped numbers (suc i) j i_in (omega arith) once) in
    record { len = r.len ∙ len; once = r.once }

in_order : (n : ℕ) → IsEachOnce (range_with_len 0 n)
in_order n = (
  λ x x_in. (let e = get_or-range_with_len 0 n x 0 (omega (arith, x_in, length-range_with_len 0 n)) in omega (arith, e, x_in)),
  λ x y less y_in same. (
      let e = get_or-range_with_len 0 n x 0 (omega (arith, less, y_in, length-range_with_len 0 n)) in
      let f = get_or-range_with_len 0 n y 0 (omega (arith, y_in, length-range_with_len 0 n)) in
      omega (arith, e, f, same, less)),
)

pub in_order_more : (n : ℕ) (numbers : List ℕ) → numbers ≡ range_with_len 0 n → numbers ++ n ∷ [] ≡ range_with_len 0 (n + 1)
in_order_more n numbers is =
    ext_get_or 0 (numbers ++ n ∷ []) (range_with_len 0 (n + 1)) (omega (arith, length-append numbers (n ∷ []), len, length-range_with_len 0 (n + 1)))
    (λ i i_in. (elim (cases_lt i n) [
      | inl below ↦ get_or_append_left numbers (n ∷ []) 0 i (omega (arith, below, len)) ∙ ap (λ (xs : List ℕ). get_or xs i 0) is
          ∙ get_or-range_with_len 0 n i 0 below ∙ sym (get_or-range_with_len 0 (n + 1) i 0 (omega (arith, below)))
      | inr at ↦
          let last : i ≡ n = omega (arith, at, i_in, length-append numbers (n ∷ []), len) in
          get_or-append_right numbers (n ∷ []) (length numbers) i 0 refl (omega (arith, at, len)) ∙ ap (λ k. get_or (n ∷ []) k 0) (none i last)
          ∙ sym (get_or-range_with_len 0 (n + 1) i 0 (omega (arith, last)) ∙ from_0 i last)
    ]))
  where
    len : length numbers ≡ n
    len = ap length is ∙ length-range_with_len 0 n

    from_0 : (i : ℕ) → i ≡ n → 0 + i ≡ n
    from_0 i last = omega (arith, last)

    none : (i : ℕ) → i ≡ n → i - length numbers ≡ 0
    none i last = omega (arith, last, len)

pub generated-perm : (lines seed : ℕ) → 1 ≤ lines → lines ≤ 16 → 1 ≤ 2 ^ lines → IsPerm lines (generated lines seed).images
generated-perm lines seed some few words =
    let r : Shuffles (range_with_len 0 (2 ^ lines)) (generated lines seed).images =
    shuffles (2 ^ lines - 1) seed (range_with_len 0 (2 ^ lines)) (omega (arith, words, length-range_with_len 0 (2 ^ lines))) (in_order (2 ^ lines)) in
    (some, few, r.len ∙ length-range_with_len 0 (2 ^ lines), r.once)

-- the numbers in their order, shuffled in the room of a vector
pub generated-are : (lines seed len : ℕ) (slice new old : List ℕ) → slice ≡ old → old ≡ range_with_len 0 (2 ^ lines) → new ≡ shuffled (length slice - 1) seed slice
    → len ≡ length old → 1 ≤ 2 ^ lines → take len (new ++ drop (length new) old) ≡ (generated lines seed).images
generated-are lines seed len slice new old same ordered made long words =
    let all : List ℕ = range_with_len 0 (2 ^ lines) in
    let slice_is : slice ≡ all = same ∙ ordered in
    let count : length slice ≡ 2 ^ lines = ap length slice_is ∙ length-range_with_len 0 (2 ^ lines) in
    let shuffled_is : new ≡ (generated lines seed).images = made ∙ ap (λ (xs : List ℕ). shuffled (length slice - 1) seed xs) slice_is ∙ ap (λ n. shuffled (n - 1) seed all) count in
    let r : Shuffles all (generated lines seed).images = shuffles (2 ^ lines - 1) seed all (omega (arith, words, length-range_with_len 0 (2 ^ lines))) (in_order (2 ^ lines)) in
    written len new (generated lines seed).images old shuffled_is (long ∙ ap length ordered ∙ sym r.len)
