-- Lists of the parities on lines.
use Rattle.std.proofs.lemmas.Grind.{common_steps}
use Rattle.std.proofs.Common.{◌≡◌, ℕ, ◌^◌, ◌<◌, ◌≤◌, false, cond, List, [], ◌∷◌, ◌++◌, length, get_or, set, sym, ap, ◌∙◌, arith, inl, inr, get_or-set_same, get_or-set_other, eq-eqb, ne_eqb, length-append}
use Rattle.std.proofs.Math.ListN.{get_or-append}
use Rattle.std.proofs.lemmas.List.{get_or_past, get_or_push}
use Rattle.std.proofs.lemmas.Bool.{cases_eq, cases_lt}
use Rattle.rv_gate.specs.Word.{has}
use Rattle.rv_fold.specs.Parities.{alone, with_parity, restarted, Parity}
use Rattle.rv_fold.specs.inside.Shown.{parities_of}

-- the line by itself, as the code has it
abbrev own : ℕ → Parity
own line = record { lines = 2 ^ line; flipped = false }

pub parities_of_past : (list : List Parity) (line : ℕ) → length list ≤ line → parities_of list line ≡ alone line
parities_of_past list line h = get_or_past list line (own line) h

-- one more line by itself
pub alone_more : (list : List Parity) (k : ℕ) (p : Parity) → length list ≡ k → p ≡ alone k → parities_of list ≡ alone → parities_of (list ++ p ∷ []) ≡ alone
alone_more list k p e is h = λ i line. at line i
  where
    at : (line : ℕ) → parities_of (list ++ p ∷ []) line ≡ alone line
    at line =
        elim (cases_lt line k) [
          | inl l ↦ ((get_or-append list (p ∷ []) (own line) line (omega arith)) ∙ ap (λ f. f line) h)
          | inr r ↦
              (elim (cases_eq line k) [
                | inl same ↦ ((ap (λ m. get_or (list ++ p ∷ []) m (own line)) same ∙ get_or_push list p (own line) k e) ∙ is ∙ ap alone (sym same))
                | inr d ↦ parities_of_past (list ++ p ∷ []) line (let n = length-append list (p ∷ []) in omega arith)
              ])
        ]

pub with_parity_set : (list : List Parity) (q : ℕ) (f : Parity) → q < length list → parities_of (set list q f) ≡ with_parity (parities_of list) q f
with_parity_set list q f h =
    grind (arith, parities_of, with_parity, cases_eq, get_or-set_same, eq-eqb, get_or-set_other, ne_eqb)

pub parity_read : (list : List Parity) (k : ℕ) (d : Parity) → k < length list → get_or list k d ≡ parities_of list k
parity_read list k d h = grind (arith, common_steps)

pub restarted_all : (list before : List Parity) (set : ℕ) → length list ≤ 64 → length before ≤ 64 → ((line : ℕ) → line < 64 → parities_of list line ≡ cond (has set line) (alone line) (parities_of before line)) → parities_of list ≡ restarted set (parities_of before)
restarted_all list before set few small each = grind (arith, parities_of, cases_lt, parities_of_past)
