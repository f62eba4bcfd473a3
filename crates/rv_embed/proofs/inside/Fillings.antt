-- Lists of output words that agree with the entries of a PLA.
use Rattle.std.proofs.Common.{◌≡◌, ℕ, zero, suc, ◌^◌, ◌<◌, ◌≤◌, Bool, true, false, not, ◌||◌, List, length, get_or, refl, sym, ◌∙◌, ap, inl, inr, arith, ext_get_or}
use Rattle.std.specs.Prelude.{All, nat_lt, ◌⊎◌}
use Rattle.std.proofs.lemmas.Bool.{cases_Bool, cases_eq, cases_lt, ltb-false, lt-ltb, le-ltb, not-true, and_parts, and_from, false≢true}
use Rattle.std.proofs.lemmas.List.{get_or_default}
use Rattle.std.proofs.lemmas.List.FromFn.{get_or-map-range_with_len, length-map-range_with_len}
use Rattle.rv_gate.specs.Word.{number_of, word_of, bit_of}
use Rattle.rv_gate.specs.inside.laws.WordLaws.{length-word_of, word_of-number_of}
use Rattle.rv_pla.specs.Pla.{TwoLevel, IsTwoLevel, entry}
use Rattle.rv_pla.specs.Zeros.{bit_for, output_word, zeros}
use Rattle.rv_pla.specs.FreeEntries.{allows, HasNoFree}
use Rattle.rv_pla.specs.declared.entry.Entry.{Entry}
use Rattle.rv_pla.proofs.FreeEntries.{allows_own, allowed_bit}
use Rattle.rv_gate.proofs.AllBelow.{all_below-at, all_below-from}
use Rattle.rv_embed.specs.Filled.{row, suits, has_least_count, least_used, own_word, is_open, taken_word, uses, greedy_word, greedy, filled}
use Rattle.rv_embed.specs.Classes.{largest_class}
use Rattle.rv_embed.specs.Realizes.{Meets}
use Rattle.rv_embed.specs.inside.Rows.{IsLeastUsed}
use Rattle.rv_embed.specs.LeastBelow.{least_below}
use Rattle.rv_embed.proofs.LineLemmas.{least_below-least, least_below-passes}
use Rattle.rv_embed.proofs.inside.ZerosLemmas.{length-front, front-lt, length-zeros, get_or-zeros}
use Rattle.rv_embed.proofs.TableLemmas.{pow_le}

-- ---- words that agree

pub suits_at : (entries : ℕ → Entry) (n y j : ℕ) → suits entries n y ≡ true → j < n → allows (entries j) (bit_of (word_of n y) j) ≡ true
unfolding suits
suits_at entries n y j h l = all_below-at (λ j. allows (entries j) (bit_of (word_of n y) j)) n j h l

pub suits_from : (entries : ℕ → Entry) (n y : ℕ) → ((j : ℕ) → j < n → allows (entries j) (bit_of (word_of n y) j) ≡ true) → suits entries n y ≡ true
unfolding suits
suits_from entries n y h = all_below-from (λ j. allows (entries j) (bit_of (word_of n y) j)) n h

-- ---- what a PLA allows

bit_of-output : (pla : TwoLevel) (x : List Bool) (j : ℕ) → j < pla.outputs → bit_of (output_word pla x) j ≡ bit_for (entry pla x j)
bit_of-output pla x j h = get_or-map-range_with_len (λ j. bit_for (entry pla x j)) 0 pla.outputs j j false h (omega arith)

-- without free entries only the output word is allowed
pub met : (pla : TwoLevel) (x y : List Bool) → HasNoFree pla → length x ≡ pla.inputs → Meets pla x y → y ≡ output_word pla x
met pla x y unfree len m =
    ext_get_or false y (output_word pla x) (m.count ∙ sym (length-front pla x pla.outputs))
    (λ j h.
    let within : j < pla.outputs = omega (arith, m.count) in
    allowed_bit (entry pla x j) (bit_of y j) (unfree x j len within) (m.allowed j within) ∙ sym (bit_of-output pla x j within))

-- a word that suits is allowed
pub meets : (pla : TwoLevel) (x y : List Bool) (v : ℕ) → length x ≡ pla.inputs → suits (row pla (number_of x)) pla.outputs v ≡ true → y ≡ word_of pla.outputs v → Meets pla x y
meets pla x y v len a e =
    let word : word_of pla.inputs (number_of x) ≡ x = ap (λ n. word_of n (number_of x)) (sym len) ∙ word_of-number_of x in
    record {
      count = ap length e ∙ length-word_of pla.outputs v;
      allowed = λ j h.
          ap (λ w. allows (entry pla x j) (bit_of w j)) e
          ∙ ap (λ w. allows (entry pla w j) (bit_of (word_of pla.outputs v) j)) (sym word)
          ∙ suits_at (row pla (number_of x)) pla.outputs v j a h;
    }

-- ---- fillings

pub record IsFilling (pla : TwoLevel) (outputs : List ℕ) : Type 0 where
  pub size : length outputs ≡ 2 ^ pla.inputs
  pub below : All (λ y. y < 2 ^ pla.outputs) outputs
  pub agree : (x : ℕ) → x < 2 ^ pla.inputs → suits (row pla x) pla.outputs (get_or outputs x 0) ≡ true

-- the own word of an input word suits
pub own_suits : (pla : TwoLevel) (x : ℕ) → suits (row pla x) pla.outputs (own_word pla x) ≡ true
own_suits pla x =
    let w : List Bool = output_word pla (word_of pla.inputs x) in
    let same : word_of pla.outputs (number_of w) ≡ w = ap (λ n. word_of n (number_of w)) (sym (length-front pla (word_of pla.inputs x) pla.outputs)) ∙ word_of-number_of w in
    suits_from (row pla x) pla.outputs (own_word pla x) (λ j l.
    ap (λ v. allows (row pla x j) (bit_of v j)) same
    ∙ ap (allows (row pla x j)) (bit_of-output pla (word_of pla.inputs x) j l)
    ∙ allows_own (row pla x j))

pub own-lt : (pla : TwoLevel) (x : ℕ) → own_word pla x < 2 ^ pla.outputs
own-lt pla x = front-lt pla (word_of pla.inputs x) pla.outputs

pub zeros_fill : (pla : TwoLevel) → IsFilling pla (zeros pla)
zeros_fill pla = record {
  size = length-zeros pla;
  below = λ k d h.
      let within : k < 2 ^ pla.inputs = omega (arith, length-zeros pla) in
      let e = get_or_default (zeros pla) k d 0 h ∙ get_or-zeros pla k within in
      let lt = own-lt pla k in
      omega arith;
  agree = λ x h. ap (suits (row pla x) pla.outputs) (get_or-zeros pla x h) ∙ own_suits pla x;
}

-- ---- the word that is used least

-- no number below n passes, or one is used least
abbrev Search : (ℕ → Bool) → (ℕ → ℕ) → ℕ → Type 0
Search passes count n = ((z : ℕ) → z < n → passes z ≡ false) ⊎ ((y : ℕ) × IsLeastUsed passes count n y)

skipped : (passes : ℕ → Bool) (count : ℕ → ℕ) (n : ℕ) → passes n ≡ false → Search passes count n → Search passes count (suc n)
skipped passes count n fails (inl h) = inl (λ z l. elim (cases_eq z n) [ inl same ↦ (ap passes same ∙ fails) | inr other ↦ h z (omega arith) ])
skipped passes count n fails (inr s) = inr (
  s.0,
  record {
    within = let l = s.1.within in omega arith;
    passed = s.1.passed;
    least = λ z l f. elim (cases_eq z n) [ inl same ↦ absurd (false≢true (sym fails ∙ ap passes (sym same) ∙ f)) | inr other ↦ s.1.least z (omega arith) f ];
    first = s.1.first;
  },
)

lesser : (passes : ℕ → Bool) (count : ℕ → ℕ) (n : ℕ) → passes n ≡ true → Search passes count n → (y : ℕ) × IsLeastUsed passes count (suc n) y
lesser passes count n pass (inl h) = (
  n,
  record {
    within = omega arith;
    passed = pass;
    least = λ z l f. elim (cases_eq z n) [ inl same ↦ (let e = ap count same in omega arith) | inr other ↦ absurd (false≢true (sym (h z (omega arith)) ∙ f)) ];
    first = λ z l f. absurd (false≢true (sym (h z l) ∙ f));
  },
)
lesser passes count n pass (inr s) =
    elim (cases_lt (count n) (count s.0)) [
      | inl less ↦ (
        n,
        record {
          within = omega arith;
          passed = pass;
          least = λ z l f. elim (cases_eq z n) [ inl same ↦ (let e = ap count same in omega arith) | inr other ↦ (let m = s.1.least z (omega arith) f in omega arith) ];
          first = λ z l f. let m = s.1.least z l f in omega arith;
        },
      )
      | inr more ↦ (
        s.0,
        record {
          within = let l = s.1.within in omega arith;
          passed = s.1.passed;
          least = λ z l f. elim (cases_eq z n) [ inl same ↦ (let e = ap count same in omega arith) | inr other ↦ s.1.least z (omega arith) f ];
          first = s.1.first;
        },
      )
    ]

search : (passes : ℕ → Bool) (count : ℕ → ℕ) (n : ℕ) → Search passes count n
search passes count zero = inl (λ z l. absurd (omega arith))
search passes count (suc n) =
    elim (cases_Bool (passes n)) [
      | inl pass ↦ inr (lesser passes count n pass (search passes count n))
      | inr fails ↦ skipped passes count n fails (search passes count n)
    ]

-- ---- the test for it

none_less : (t : Bool) (a b : ℕ) → (t ≡ true → b ≤ a) → (not t || not (nat_lt a b)) ≡ true
none_less false a b h = refl
none_less true a b h = ap not (le-ltb a b (h refl))

not_less : (t : Bool) (a b : ℕ) → (not t || not (nat_lt a b)) ≡ true → t ≡ true → b ≤ a
not_less false a b h e = absurd (false≢true e)
not_less true a b h e = ltb-false _ _ (not-true _ h)

tested : (passes : ℕ → Bool) (count : ℕ → ℕ) (n y : ℕ) → IsLeastUsed passes count n y → has_least_count passes count n y ≡ true
tested passes count n y h = grind (arith, and_from, all_below-from, none_less)

test_least : (passes : ℕ → Bool) (count : ℕ → ℕ) (n y z : ℕ) → has_least_count passes count n y ≡ true → z < n → passes z ≡ true → count y ≤ count z
test_least passes count n y z h l f =
    not_less (passes z) (count z) (count y) (all_below-at (λ z. not (passes z) || not (nat_lt (count z) (count y))) n z (and_parts _ _ h).1 l) f

-- the least number that passes the test
tested_least : (passes : ℕ → Bool) (count : ℕ → ℕ) (n y m : ℕ) → IsLeastUsed passes count n y → m ≡ least_below (has_least_count passes count n) n → m ≡ y
tested_least passes count n y m h e =
    let le = least_below-least (has_least_count passes count n) n y (tested passes count n y h) in
    let w = h.within in
    let here : has_least_count passes count n m ≡ true =
    ap (has_least_count passes count n) e ∙ least_below-passes (has_least_count passes count n) n (omega arith) in
    elim (cases_eq m y) [
      | inl is ↦ is
      | inr other ↦ absurd (let a = h.first m (omega arith) (and_parts _ _ here).0 in let b = test_least passes count n m y here w h.passed in omega arith)
    ]

-- the definition from the property
pub least_used_is : (passes : ℕ → Bool) (count : ℕ → ℕ) (n y : ℕ) → IsLeastUsed passes count n y → least_used passes count n ≡ y
unfolding least_used
least_used_is passes count n y h = tested_least passes count n y (least_below (has_least_count passes count n) n) h refl

-- some word passes, so the one that is used least does
least_used_passes : (passes : ℕ → Bool) (count : ℕ → ℕ) (n z : ℕ) → z < n → passes z ≡ true → Search passes count n → (least_used passes count n < n) × (passes (least_used passes count n) ≡ true)
least_used_passes passes count n z l f (inl h) = absurd (false≢true (sym (h z l) ∙ f))
least_used_passes passes count n z l f (inr s) = rw (least_used_is passes count n s.0 s.1) (s.1.within, s.1.passed)

-- ---- greedy fillings

-- a word is taken that suits
pub taken_fits : (pla : TwoLevel) (counts : List ℕ) (x : ℕ) → (taken_word pla counts x < 2 ^ pla.outputs) × (suits (row pla x) pla.outputs (taken_word pla counts x) ≡ true)
taken_fits pla counts x =
    least_used_passes (suits (row pla x) pla.outputs) (λ y. get_or counts y 0) (2 ^ pla.outputs) (own_word pla x) (own-lt pla x) (own_suits pla x)
    (search (suits (row pla x) pla.outputs) (λ y. get_or counts y 0) (2 ^ pla.outputs))

greedy_fits : (pla : TwoLevel) (x : ℕ) → (greedy_word pla x < 2 ^ pla.outputs) × (suits (row pla x) pla.outputs (greedy_word pla x) ≡ true)
greedy_fits pla x =
    elim (cases_Bool (is_open pla x)) [ inl free ↦ rw free (taken_fits pla (uses pla x) x) | inr unfree ↦ rw unfree (own-lt pla x, own_suits pla x) ]

greedy_at : (pla : TwoLevel) (x d : ℕ) → x < 2 ^ pla.inputs → get_or (greedy pla) x d ≡ greedy_word pla x
greedy_at pla x d h = get_or-map-range_with_len (greedy_word pla) 0 (2 ^ pla.inputs) x x d h (omega arith)

pub greedy_fills : (pla : TwoLevel) → IsFilling pla (greedy pla)
greedy_fills pla = grind (arith, length-map-range_with_len, greedy_at, greedy_fits)

-- ---- the better one

pub filled_fills : (pla : TwoLevel) → IsFilling pla (filled pla)
unfolding filled
filled_fills pla =
    elim (cases_Bool (nat_lt (largest_class (greedy pla)) (largest_class (zeros pla)))) [
      | inl less ↦ rw less (greedy_fills pla)
      | inr more ↦ rw more (zeros_fill pla)
    ]

pub filled_classes : (pla : TwoLevel) → largest_class (filled pla) ≤ largest_class (zeros pla)
unfolding filled
filled_classes pla = grind arith

pub filled_is_greedy : (pla : TwoLevel) → largest_class (greedy pla) < largest_class (zeros pla) → filled pla ≡ greedy pla
unfolding filled
filled_is_greedy pla h = rw (lt-ltb _ _ h) refl

pub filled_is_zeros : (pla : TwoLevel) → largest_class (zeros pla) ≤ largest_class (greedy pla) → filled pla ≡ zeros pla
unfolding filled
filled_is_zeros pla h = grind arith

pub few_words : (pla : TwoLevel) (outputs : List ℕ) → IsTwoLevel pla → IsFilling pla outputs → length outputs ≤ 2 ^ 16
few_words pla outputs t f = let most = pow_le pla.inputs 16 t.few_inputs in omega (arith, f.size)
