-- Laws of cutting a text into lines.
use Rattle.std.proofs.Common.{◌≡◌, ℕ, zero, suc, ◌+◌, ◌<◌, ◌≤◌, true, false, cond, not, List, [], ◌∷◌, ◌++◌, length, get_or, take, Some, None, refl, sym, ap, ◌∙◌, append_assoc, arith, nat_eq, nat_lt, inl, inr}
use Rattle.std.specs.List.{position}
use Rattle.std.proofs.lemmas.Bool.{eqb-true, ltb-false, cases_Bool}
use Rattle.std.proofs.lemmas.List.{append-nil, take_more, length-take, get_or-take}
use Rattle.std.proofs.lemmas.List.Quantifiers.{position-Some}
use Rattle.rv_text.specs.Bytes.{line_feed}
use Rattle.rv_text.specs.Lines.{ended_after, begun_after, last_line, lines_of, first_end}

-- the lines of two pieces are those of the first, and those of the second after what the first began
pub ended_after-append : (begun a b : List ℕ) → ended_after begun (a ++ b) ≡ ended_after begun a ++ ended_after (begun_after begun a) b
ended_after-append begun [] b = refl
ended_after-append begun (c ∷ cs) b = elim (nat_eq c 10) as (λ t. cond t (begun ∷ ended_after [] (cs ++ b)) (ended_after (begun ++ c ∷ []) (cs ++ b)) ≡ cond t (begun ∷ ended_after [] cs) (ended_after (begun ++ c ∷ []) cs) ++ ended_after (cond t (begun_after [] cs) (begun_after (begun ++ c ∷ []) cs)) b) [
  | true ↦ ap (λ (ls : List (List ℕ)). begun ∷ ls) (ended_after-append [] cs b)
  | false ↦ ended_after-append (begun ++ c ∷ []) cs b
]

pub begun_after-append : (begun a b : List ℕ) → begun_after begun (a ++ b) ≡ begun_after (begun_after begun a) b
begun_after-append begun [] b = refl
begun_after-append begun (c ∷ cs) b = elim (nat_eq c 10) as (λ t. cond t (begun_after [] (cs ++ b)) (begun_after (begun ++ c ∷ []) (cs ++ b)) ≡ begun_after (cond t (begun_after [] cs) (begun_after (begun ++ c ∷ []) cs)) b) [
  | true ↦ begun_after-append [] cs b
  | false ↦ begun_after-append (begun ++ c ∷ []) cs b
]

-- the lines of a text that goes on are those that were ended, and those of the rest after what was begun
pub lines_of-append : (a b : List ℕ) → lines_of (a ++ b) ≡ ended_after [] a ++ (ended_after (begun_after [] a) b ++ last_line (begun_after (begun_after [] a) b))
lines_of-append a b = rw (ended_after-append [] a b, begun_after-append [] a b) (append_assoc (ended_after [] a) (ended_after (begun_after [] a) b) (last_line (begun_after (begun_after [] a) b)))

-- no byte is a line feed
abbrev pub HasNoEnd : List ℕ → Type 0
HasNoEnd xs = (k : ℕ) → k < length xs → nat_eq (get_or xs k 0) 10 ≡ false

pub ended_after-none : (begun xs : List ℕ) → HasNoEnd xs → ended_after begun xs ≡ []
ended_after-none begun [] h = refl
ended_after-none begun (x ∷ xs) h = rw (h 0 (omega arith)) (ended_after-none (begun ++ x ∷ []) xs (λ k lt. h (suc k) (omega arith)))

pub begun_after-none : (begun xs : List ℕ) → HasNoEnd xs → begun_after begun xs ≡ begun ++ xs
begun_after-none begun [] h = sym (append-nil begun)
begun_after-none begun (x ∷ xs) h = rw (h 0 (omega arith)) (begun_after-none (begun ++ x ∷ []) xs (λ k lt. h (suc k) (omega arith)) ∙ append_assoc begun (x ∷ []) xs)

longer : (x : ℕ) (xs : List ℕ) → length (x ∷ xs) ≤ first_end (x ∷ xs) → (nat_eq x 10 ≡ false) × (length xs ≤ first_end xs)
longer x xs h = elim (nat_eq x 10) as (λ t. length (x ∷ xs) ≤ cond (not t) (1 + first_end xs) 0 → (t ≡ false) × (length xs ≤ first_end xs)) [
  | true ↦ λ le. absurd (omega (arith, le))
  | false ↦ λ le. (refl, omega (arith, le))
] h

-- bytes that are no more than stand before their first line feed have none
has_no_end : (xs : List ℕ) → length xs ≤ first_end xs → HasNoEnd xs
has_no_end [] h k lt = absurd (omega (arith, lt))
has_no_end (x ∷ xs) h zero lt = (longer x xs h).0
has_no_end (x ∷ xs) h (suc k) lt = has_no_end xs (longer x xs h).1 k (omega arith)

pub HasNoEnd-None : (piece : List ℕ) → position (λ b. nat_eq b line_feed) piece ≡ None → HasNoEnd piece
HasNoEnd-None piece h = elim (cases_Bool (nat_lt (first_end piece) (length piece))) [
  | inl e ↦ absurd (let bad = rw e at h in cc)
  | inr e ↦ has_no_end piece (ltb-false _ _ e)
]

-- a front that ends where the first line feed stands has none
pub HasNoEnd-Some : (piece : List ℕ) (end : ℕ) → position (λ b. nat_eq b line_feed) piece ≡ Some end → HasNoEnd (take end piece)
HasNoEnd-Some piece end h k lt =
    let first = position-Some (λ b. nat_eq b line_feed) piece end 0 h in
    let below : k < end = omega (arith, length-take end piece) in
    rw (get_or-take end piece k 0 below) (first.2 k below)

-- a front with the first line feed of a piece
front : (piece : List ℕ) (end : ℕ) → position (λ b. nat_eq b line_feed) piece ≡ Some end → take (end + 1) piece ≡ take end piece ++ line_feed ∷ []
front piece end h =
    let first = position-Some (λ b. nat_eq b line_feed) piece end 0 h in
    rw (take_more piece end 0 first.0, eqb-true _ _ first.1) refl

pub ended_after-Some : (begun piece : List ℕ) (end : ℕ) → position (λ b. nat_eq b line_feed) piece ≡ Some end
    → ended_after begun (take (end + 1) piece) ≡ (begun ++ take end piece) ∷ []
ended_after-Some begun piece end h =
    let none = HasNoEnd-Some piece end h in
    rw (front piece end h, ended_after-append begun (take end piece) (line_feed ∷ []), ended_after-none begun (take end piece) none, begun_after-none begun (take end piece) none) refl

pub begun_after-Some : (begun piece : List ℕ) (end : ℕ) → position (λ b. nat_eq b line_feed) piece ≡ Some end
    → begun_after begun (take (end + 1) piece) ≡ []
begun_after-Some begun piece end h = rw (front piece end h, begun_after-append begun (take end piece) (line_feed ∷ [])) refl
