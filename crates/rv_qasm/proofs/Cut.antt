-- The statements of a text are those that `;` ends, and no others.
use Rattle.std.proofs.Common.{arith, ◌≡◌, true, false, not, List, [], ◌∷◌, ◌++◌, refl, sym, ◌∙◌, ap, append_assoc, inl, inr}
use Rattle.std.specs.Prelude.{◌↔◌}
use Rattle.std.proofs.lemmas.Bool.{and_from, cases_Bool, not-true}
use Rattle.std.proofs.lemmas.List.{append-nil}
use Rattle.std.proofs.lemmas.List.Folds.{list_all-append}
use Rattle.rv_qasm.specs.Tokens.{TokenOnLine}
use Rattle.rv_qasm.specs.Statements.{Statement, statement_of, ended_statements, unended_tokens}
use Rattle.rv_qasm.specs.Cut.{is_semicolon, HoldsNoEnd, AreCut}

no_end_more : (front : List TokenOnLine) (token : TokenOnLine) → HoldsNoEnd front → is_semicolon token ≡ false → HoldsNoEnd (front ++ token ∷ [])
no_end_more front token h e = list_all-append (λ token. not (is_semicolon token)) front (token ∷ []) ∙ and_from _ _ h (rw e refl)

are_cut : (tokens begun : List TokenOnLine) → HoldsNoEnd begun → AreCut (begun ++ tokens) (ended_statements begun tokens) (unended_tokens begun tokens)
unfolding ended_statements unended_tokens
are_cut [] begun h = rw (append-nil begun) (refl, h)
are_cut (token ∷ tokens) begun h = elim (cases_Bool (is_semicolon token)) [
  | inl e ↦ rw e (tokens, record { front = begun; end = token; tokens_are = refl; front_is = h; end_is = e; statement_is = refl }, are_cut tokens [] refl)
  | inr e ↦ rw (e, ← append_assoc begun (token ∷ []) tokens) (are_cut tokens (begun ++ token ∷ []) (no_end_more begun token h e))
]

ended_past : (front begun rest : List TokenOnLine) → HoldsNoEnd front → ended_statements begun (front ++ rest) ≡ ended_statements (begun ++ front) rest
unfolding ended_statements
ended_past [] begun rest h = rw (append-nil begun) refl
ended_past (token ∷ front) begun rest h = let i0 = ended_past front (begun ++ token ∷ []) rest in grind (arith, i0, not-true, append_assoc)

unended_past : (front begun rest : List TokenOnLine) → HoldsNoEnd front → unended_tokens begun (front ++ rest) ≡ unended_tokens (begun ++ front) rest
unfolding unended_tokens
unended_past [] begun rest h = rw (append-nil begun) refl
unended_past (token ∷ front) begun rest h = let i0 = unended_past front (begun ++ token ∷ []) rest in grind (arith, i0, not-true, append_assoc)

ended_first : (front : List TokenOnLine) (end : TokenOnLine) (rest : List TokenOnLine) → HoldsNoEnd front → is_semicolon end ≡ true
    → ended_statements [] (front ++ end ∷ rest) ≡ statement_of front end.line ∷ ended_statements [] rest
unfolding ended_statements
ended_first front end rest h e = ended_past front [] (end ∷ rest) h ∙ rw e refl

unended_first : (front : List TokenOnLine) (end : TokenOnLine) (rest : List TokenOnLine) → HoldsNoEnd front → is_semicolon end ≡ true
    → unended_tokens [] (front ++ end ∷ rest) ≡ unended_tokens [] rest
unfolding unended_tokens
unended_first front end rest h e = unended_past front [] (end ∷ rest) h ∙ rw e refl

ended_alone : (statements : List Statement) (tokens left : List TokenOnLine) → AreCut tokens statements left → statements ≡ ended_statements [] tokens
unfolding ended_statements
ended_alone [] tokens left h = rw (sym (append-nil tokens)) (sym (ended_past tokens [] [] h.1))
ended_alone (statement ∷ statements) tokens left h = let i0 = ended_alone statements h.0 left h.2 in grind (arith, i0, ended_first)

left_alone : (statements : List Statement) (tokens left : List TokenOnLine) → AreCut tokens statements left → left ≡ unended_tokens [] tokens
unfolding unended_tokens
left_alone [] tokens left h = h.0 ∙ sym (ap (unended_tokens []) (sym (append-nil tokens)) ∙ unended_past tokens [] [] h.1)
left_alone (statement ∷ statements) tokens left h = let i0 = left_alone statements h.0 left h.2 in grind (arith, i0, unended_first)

pub AreCut-statements : (tokens : List TokenOnLine) (statements : List Statement) (left : List TokenOnLine)
    → AreCut tokens statements left ↔ ((statements ≡ ended_statements [] tokens) × (left ≡ unended_tokens [] tokens))
AreCut-statements tokens statements left =
    (λ h. (ended_alone statements tokens left h, left_alone statements tokens left h), λ e. rw (e.0, e.1) (are_cut tokens [] refl))
