-- How often output words are used while the words are found.
use Rattle.std.proofs.Common.{◌≡◌, ◌≢◌, ℕ, zero, suc, ◌+◌, ◌^◌, ◌<◌, ◌≤◌, Bool, true, false, not, ◌&&◌, cond, eqb, List, length, set, get_or, refl, sym, ◌∙◌, ap, subst, inl, inr, arith, eq-eqb, ne_eqb, add-one, length-set, get_or-set_same, get_or-set_other, ext_get_or}
use Rattle.std.specs.Prelude.{◌⊎◌}
use Rattle.std.specs.List.{count_by, range_with_len}
use Rattle.std.proofs.lemmas.Bool.{cases_Bool, cases_eq}
use Rattle.std.proofs.lemmas.List.{map-id}
use Rattle.std.proofs.lemmas.List.FromFn.{length-range_with_len, length-map-range_with_len, get_or-map-range_with_len, sum_by-map-range_with_len_more}
use Rattle.std.proofs.lemmas.List.Sums.{count_by-le-length}
use Rattle.rv_pla.specs.Pla.{TwoLevel}
use Rattle.rv_embed.specs.Filled.{row, is_open, suits, own_word, known_uses, taken_word, raised, uses, greedy_word}
use Rattle.rv_embed.specs.inside.Rows.{IsLeastUsed, entries_row, fits, known_before}
use Rattle.rv_embed.specs.declared.row.Row.{Row}
use Rattle.rv_embed.proofs.inside.Fillings.{least_used_is, taken_fits}
use Rattle.rv_embed.proofs.inside.Walking.{fits_suits, free_is, want_own}

-- 1 where two words are the same
abbrev pub hit : ℕ → ℕ → ℕ
hit v y = cond (eqb v y) 1 0

pub set_hit : (xs : List ℕ) (v y : ℕ) → v < length xs → get_or (set xs v (get_or xs v 0 + 1)) y 0 ≡ get_or xs y 0 + hit v y
set_hit xs v y l = grind (arith, cases_eq, get_or-set_same, eq-eqb, get_or-set_other, ne_eqb)

-- ---- the counts at the beginning

abbrev counts_it : TwoLevel → ℕ → ℕ → Bool
counts_it pla y x = not (is_open pla x) && eqb (own_word pla x) y

known_none : (pla : TwoLevel) (y : ℕ) → known_before pla 0 y ≡ 0
unfolding known_before
known_none pla y = refl

known_more : (pla : TwoLevel) (n y : ℕ) → known_before pla (n + 1) y ≡ known_before pla n y + cond (counts_it pla y n) 1 0
unfolding known_before
known_more pla n y =
    ap (count_by (counts_it pla y)) (sym (map-id (range_with_len 0 (n + 1))))
    ∙ sum_by-map-range_with_len_more (λ x. cond {A = ℕ} (counts_it pla y x) 1 0) (λ x. x) 0 n n (omega arith)
    ∙ ap (λ l. count_by (counts_it pla y) l + cond (counts_it pla y n) 1 0) (map-id (range_with_len 0 n))

known-le : (pla : TwoLevel) (n y : ℕ) → known_before pla n y ≤ n
unfolding known_before
known-le pla n y = let l = count_by-le-length (counts_it pla y) (range_with_len 0 n) in let e = length-range_with_len 0 n in omega arith

known_all : (pla : TwoLevel) (y : ℕ) → known_before pla (2 ^ pla.inputs) y ≡ known_uses pla y
unfolding known_before known_uses
known_all pla y = refl

pub record Known (pla : TwoLevel) (counts : List ℕ) (n : ℕ) : Type 0 where
  pub len : length counts ≡ 2 ^ pla.outputs
  pub counted : (y : ℕ) → y < 2 ^ pla.outputs → get_or counts y 0 ≡ known_before pla n y

pub Known-le : (pla : TwoLevel) (counts : List ℕ) (n y : ℕ) → Known pla counts n → y < 2 ^ pla.outputs → get_or counts y 0 ≤ n
Known-le pla counts n y k h = let l = known-le pla n y in omega (arith, k.counted y h)

pub Known-none : (pla : TwoLevel) (counts : List ℕ) → length counts ≡ 2 ^ pla.outputs → ((y : ℕ) → y < 2 ^ pla.outputs → get_or counts y 0 ≡ 0) → Known pla counts 0
Known-none pla counts len zeros = record { len = len; counted = λ y h. zeros y h ∙ sym (known_none pla y) }

-- one more input word, counted where its row has no free entry
pub Known-row : (pla : TwoLevel) (counts new : List ℕ) (n : ℕ) (r : Row) → Known pla counts n → r ≡ entries_row (row pla n) pla.outputs → r.want < 2 ^ pla.outputs
    → (r.free ≡ 0) × (new ≡ set counts r.want (get_or counts r.want 0 + 1)) ⊎ ((r.free ≢ 0) × (new ≡ counts)) → Known pla new (n + 1)
Known-row pla counts new n r k e small (inl own) = grind (arith, want_own, free_is, length-set, set_hit, known_more)
Known-row pla counts new n r k e small (inr other) = grind (arith, known_more, free_is)

pub Known-all : (pla : TwoLevel) (counts : List ℕ) → Known pla counts (2 ^ pla.inputs) → counts ≡ uses pla 0
unfolding uses
Known-all pla counts k =
    ext_get_or 0 counts _ (k.len ∙ sym (length-map-range_with_len (known_uses pla) 0 (2 ^ pla.outputs)))
    (λ y h.
    let within : y < 2 ^ pla.outputs = omega (arith, k.len) in
    k.counted y within ∙ known_all pla y ∙ sym (get_or-map-range_with_len (known_uses pla) 0 (2 ^ pla.outputs) y y 0 within (omega arith)))

-- ---- the counts while the words are found

pub length-uses : (pla : TwoLevel) (x : ℕ) → length (uses pla x) ≡ 2 ^ pla.outputs
unfolding uses
length-uses pla zero = length-map-range_with_len (known_uses pla) 0 (2 ^ pla.outputs)
length-uses pla (suc x) = let i0 = length-uses pla x in grind (arith, i0, length-set)

uses_first : (pla : TwoLevel) (y : ℕ) → y < 2 ^ pla.outputs → get_or (uses pla 0) y 0 ≡ known_uses pla y
unfolding uses
uses_first pla y h = get_or-map-range_with_len (known_uses pla) 0 (2 ^ pla.outputs) y y 0 h (omega arith)

uses_open : (pla : TwoLevel) (x : ℕ) → is_open pla x ≡ true → uses pla (x + 1) ≡ raised (uses pla x) (taken_word pla (uses pla x) x)
unfolding uses
uses_open pla x free = rw (add-one x, free) refl

uses_own : (pla : TwoLevel) (x : ℕ) → is_open pla x ≡ false → uses pla (x + 1) ≡ uses pla x
unfolding uses
uses_own pla x unfree = rw (add-one x, unfree) refl

hit-le : (v y : ℕ) → hit v y ≤ 1
hit-le v y = elim (cases_Bool (eqb v y)) [ inl same ↦ rw same (omega arith) | inr other ↦ rw other (omega arith) ]

pub uses-le : (pla : TwoLevel) (x y : ℕ) → y < 2 ^ pla.outputs → get_or (uses pla x) y 0 ≤ 2 ^ pla.inputs + x
uses-le pla zero y h =
    let l = known-le pla (2 ^ pla.inputs) y in
    let all = known_all pla y in
    let e : get_or (uses pla 0) y 0 ≡ known_uses pla y = uses_first pla y h in
    omega arith
uses-le pla (suc x) y h =
    let l = uses-le pla x y h in
    let one = add-one x in
    elim (cases_Bool (is_open pla x)) [
      | inl free ↦
          let v : ℕ = taken_word pla (uses pla x) x in
          let e : get_or (uses pla (suc x)) y 0 ≡ get_or (raised (uses pla x) v) y 0 = ap (λ k. get_or (uses pla k) y 0) (sym one) ∙ ap (λ l. get_or l y 0) (uses_open pla x free) in
          let s = set_hit (uses pla x) v y (let t = (taken_fits pla (uses pla x) x).0 in omega (arith, length-uses pla x)) in
          let m = hit-le v y in
          omega arith
      | inr unfree ↦
          let e : get_or (uses pla (suc x)) y 0 ≡ get_or (uses pla x) y 0 = ap (λ k. get_or (uses pla k) y 0) (sym one) ∙ ap (λ l. get_or l y 0) (uses_own pla x unfree) in
          omega arith
    ]

-- the same property for the same test
least_same : (p q : ℕ → Bool) (c : ℕ → ℕ) (n y : ℕ) → ((z : ℕ) → p z ≡ q z) → IsLeastUsed p c n y → IsLeastUsed q c n y
least_same p q c n y same h = record {
  within = h.within;
  passed = sym (same y) ∙ h.passed;
  least = λ z l f. h.least z l (same z ∙ f);
  first = λ z l f. h.first z l (same z ∙ f);
}

-- the word that is used least
least_taken : (pla : TwoLevel) (counts : List ℕ) (n v : ℕ) (r : Row) → r ≡ entries_row (row pla n) pla.outputs → IsLeastUsed (fits r.care r.want) (λ y. get_or counts y 0) (2 ^ pla.outputs) v → v ≡ taken_word pla counts n
least_taken pla counts n v r e least =
    let P : Row → Type 0 = λ t. IsLeastUsed (fits t.care t.want) (λ y. get_or counts y 0) (2 ^ pla.outputs) v in
    sym (least_used_is _ _ _ v (least_same _ (suits (row pla n) pla.outputs) _ _ v (fits_suits (row pla n) pla.outputs) (subst P e least)))

-- one more input word has its output word
pub record Found (pla : TwoLevel) (counts : List ℕ) (n v : ℕ) : Type 0 where
  pub word : v ≡ greedy_word pla n
  pub counts_after : counts ≡ uses pla (n + 1)

pub found : (pla : TwoLevel) (counts new : List ℕ) (n v : ℕ) (r : Row) → counts ≡ uses pla n → r ≡ entries_row (row pla n) pla.outputs
    → (r.free ≡ 0 → v ≡ r.want) → (r.free ≡ 0 → new ≡ counts)
    → (r.free ≢ 0 → IsLeastUsed (fits r.care r.want) (λ y. get_or counts y 0) (2 ^ pla.outputs) v) → (r.free ≢ 0 → new ≡ raised counts v)
    → Found pla new n v
found pla counts new n v r so_far e own kept least counted = grind (arith, want_own, free_is, least_taken, uses_open, uses_own)
