-- The first place of a byte, and lines without a quote.
use Rattle.std.proofs.Common.{◌≡◌, ℕ, Bool, true, false, not, cond, ◌||◌, List, [], ◌∷◌, ◌++◌, length, position, Option, Some, None, is_some, suc, ◌+◌, refl, sym, ◌∙◌, arith, inl, inr, nat_eq, nat_lt, lt-ltb}
use Rattle.std.proofs.lemmas.Bool.{or_parts, cases_lt, le-ltb, false_from_ne_true}
use Rattle.std.proofs.lemmas.List.Sums.{position_or_len_is}
use Rattle.std.specs.List.{list_any, position_or_len}
use Rattle.memchr.specs.Find.{IsFirstByte}
use Rattle.rv_text.specs.Bytes.{quote, hash}
use Rattle.rv_text.specs.Tokens.{Lexeme, tokens_from, tokens_of, between, inside, quoting, is_blank, plain}

below_more : (m n : ℕ) → nat_lt m n ≡ nat_lt (1 + m) (suc n)
below_more m n = elim (cases_lt m n) [
  | inl lt ↦ lt-ltb m n lt ∙ sym (lt-ltb (1 + m) (suc n) (omega arith))
  | inr le ↦ le-ltb m n le ∙ sym (le-ltb (1 + m) (suc n) (omega arith))
]

any_below : (test : ℕ → Bool) (bytes : List ℕ) → nat_lt (position_or_len test bytes) (length bytes) ≡ list_any test bytes
any_below test [] = refl
any_below test (c ∷ cs) = elim (test c) as (λ t. nat_lt (cond (not t) (1 + position_or_len test cs) 0) (length (c ∷ cs)) ≡ (t || list_any test cs)) [
  | true ↦ lt-ltb 0 (length (c ∷ cs)) (omega arith)
  | false ↦ sym (below_more (position_or_len test cs) (length cs)) ∙ any_below test cs
]

pub is_some-position : (test : ℕ → Bool) (bytes : List ℕ) → is_some (position test bytes) ≡ list_any test bytes
is_some-position test bytes = some (nat_lt (position_or_len test bytes) (length bytes)) _ ∙ any_below test bytes
  where
    some : (b : Bool) (n : ℕ) → is_some (cond b (Some n) None) ≡ b
    some true n = refl
    some false n = refl

pub first_place : (test : ℕ → Bool) (bytes : List ℕ) (r : Option ℕ) → IsFirstByte test bytes r → r ≡ position test bytes
first_place test bytes None none =
    let past : position_or_len test bytes ≡ length bytes =
    position_or_len_is test bytes (length bytes) 0 (omega arith) (λ k lt. false_from_ne_true _ (none k (omega arith) lt)) (λ lt. absurd (omega arith)) in
    rw (past, le-ltb (length bytes) (length bytes) (omega arith)) refl
first_place test bytes (Some k) first =
    let at : position_or_len test bytes ≡ k =
    position_or_len_is test bytes k 0 (omega arith) (λ j lt. false_from_ne_true _ (first.0.before j (omega arith) lt)) (λ lt. first.1) in
    rw (at, lt-ltb k (length bytes) first.0.high) refl

abbrev pub has_open : List Lexeme → Bool
has_open tokens = list_any (λ token. not token.closed) tokens

-- what no quote follows is closed, be it between tokens or inside one
closed_from : (blanks line : List ℕ) → list_any (λ b. nat_eq b quote) line ≡ false
    → (has_open (tokens_from true blanks between line) ≡ false) × ((begun : List ℕ) → has_open (tokens_from true blanks (inside begun) line) ≡ false)
closed_from blanks [] none = (refl, λ begun. refl)
closed_from blanks (c ∷ cs) none =
    let parts = or_parts (nat_eq c quote) (list_any (λ b. nat_eq b quote) cs) none in
    let rest = closed_from blanks cs parts.1 in (
      elim (is_blank blanks c) as (λ t. has_open (cond t (tokens_from true blanks between cs) (cond (nat_eq c hash) [] (cond (nat_eq c quote) (tokens_from true blanks (quoting []) cs) (tokens_from true blanks (inside (c ∷ [])) cs)))) ≡ false) [
        | true ↦ rest.0
        | false ↦ elim (nat_eq c hash) as (λ t. has_open (cond t [] (cond (nat_eq c quote) (tokens_from true blanks (quoting []) cs) (tokens_from true blanks (inside (c ∷ [])) cs))) ≡ false) [
          | true ↦ refl
          | false ↦ rw parts.0 (rest.1 (c ∷ []))
        ]
      ],
      λ begun. elim (is_blank blanks c) as (λ t. has_open (cond t (plain begun ∷ tokens_from true blanks between cs) (cond (nat_eq c hash) (plain begun ∷ []) (tokens_from true blanks (inside (begun ++ c ∷ [])) cs))) ≡ false) [
        | true ↦ rest.0
        | false ↦ elim (nat_eq c hash) as (λ t. has_open (cond t (plain begun ∷ []) (tokens_from true blanks (inside (begun ++ c ∷ [])) cs)) ≡ false) [
          | true ↦ refl
          | false ↦ rest.1 (begun ++ c ∷ [])
        ]
      ],
    )

-- a line without a quote has no token that isn't closed
pub all_closed : (blanks line : List ℕ) → list_any (λ b. nat_eq b quote) line ≡ false → has_open (tokens_of true blanks line) ≡ false
all_closed blanks line none = (closed_from blanks line none).0
