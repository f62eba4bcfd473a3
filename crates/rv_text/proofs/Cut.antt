-- The lines of a text are those that make it again, and no others.
use Rattle.std.proofs.Common.{◌≡◌, ℕ, not, List, [], ◌∷◌, ◌++◌, refl, sym, ap, ◌∙◌, append_assoc, inl, inr, nat_eq}
use Rattle.std.specs.Prelude.{◌↔◌}
use Rattle.std.specs.List.{All, list_all}
use Rattle.std.proofs.lemmas.Bool.{and_parts, cases_Bool, eqb-true, not-true}
use Rattle.std.proofs.lemmas.List.{append-nil}
use Rattle.std.proofs.lemmas.List.Elements.{All-nil, All-cons, All-head, All-tail}
use Rattle.rv_text.specs.Bytes.{line_feed}
use Rattle.rv_text.specs.Lines.{ended_after, begun_after, lines_of}
use Rattle.rv_text.specs.Spelled.{IsOneLine}
use Rattle.rv_text.specs.Cut.{ended_lines, IsCut}
use Rattle.rv_text.proofs.inside.Spelled.{list_all-push, ended_after-line, begun_after-line}

joined_again : (begun text : List ℕ) → begun ++ text ≡ ended_lines (ended_after begun text) ++ begun_after begun text
joined_again begun [] = append-nil begun
joined_again begun (c ∷ cs) = elim (cases_Bool (nat_eq c line_feed)) [
  | inl e ↦ rw e (let is = eqb-true _ _ e in rw is (ap (λ (xs : List ℕ). begun ++ (line_feed ∷ xs)) (joined_again [] cs) ∙ sym (append_assoc begun (line_feed ∷ ended_lines (ended_after [] cs)) (begun_after [] cs))))
  | inr e ↦ rw e (sym (append_assoc begun (c ∷ []) cs) ∙ joined_again (begun ++ c ∷ []) cs)
]

ended_are : (begun text : List ℕ) → IsOneLine begun → All IsOneLine (ended_after begun text)
ended_are begun [] h = All-nil IsOneLine
ended_are begun (c ∷ cs) h = elim (cases_Bool (nat_eq c line_feed)) [
  | inl e ↦ rw e (All-cons IsOneLine begun (ended_after [] cs) h (ended_are [] cs refl))
  | inr e ↦ rw e (ended_are (begun ++ c ∷ []) cs (list_all-push _ begun c h (rw e refl)))
]

rest_is : (begun text : List ℕ) → IsOneLine begun → IsOneLine (begun_after begun text)
rest_is begun [] h = h
rest_is begun (c ∷ cs) h = elim (cases_Bool (nat_eq c line_feed)) [
  | inl e ↦ rw e (rest_is [] cs refl)
  | inr e ↦ rw e (rest_is (begun ++ c ∷ []) cs (list_all-push _ begun c h (rw e refl)))
]

is_cut : (text : List ℕ) → IsCut text (lines_of text)
is_cut text = record {
  ended = ended_after [] text;
  rest = begun_after [] text;
  text_is = joined_again [] text;
  lines_are = refl;
  ended_are = ended_are [] text refl;
  rest_is = rest_is [] text refl;
}

none_ended : (begun rest : List ℕ) → IsOneLine rest → ended_after begun rest ≡ []
none_ended begun [] h = refl
none_ended begun (c ∷ cs) h =
    let t = and_parts (not (nat_eq c line_feed)) (list_all (λ c. not (nat_eq c line_feed)) cs) h in
    rw (not-true (nat_eq c line_feed) t.0) (none_ended (begun ++ c ∷ []) cs t.1)

all_begun : (begun rest : List ℕ) → IsOneLine rest → begun_after begun rest ≡ begun ++ rest
all_begun begun [] h = sym (append-nil begun)
all_begun begun (c ∷ cs) h =
    let t = and_parts (not (nat_eq c line_feed)) (list_all (λ c. not (nat_eq c line_feed)) cs) h in
    rw (not-true (nat_eq c line_feed) t.0) (all_begun (begun ++ c ∷ []) cs t.1 ∙ append_assoc begun (c ∷ []) cs)

ended_again : (ended : List (List ℕ)) (rest : List ℕ) → All IsOneLine ended → IsOneLine rest → ended_after [] (ended_lines ended ++ rest) ≡ ended
ended_again [] rest h k = none_ended [] rest k
ended_again (l ∷ ls) rest h k =
    rw (append_assoc l (line_feed ∷ ended_lines ls) rest) (ended_after-line [] l (ended_lines ls ++ rest) (All-head IsOneLine l ls h)
    ∙ ap (λ (lines : List (List ℕ)). l ∷ lines) (ended_again ls rest (All-tail IsOneLine l ls h) k))

rest_again : (ended : List (List ℕ)) (rest : List ℕ) → All IsOneLine ended → IsOneLine rest → begun_after [] (ended_lines ended ++ rest) ≡ rest
rest_again [] rest h k = all_begun [] rest k
rest_again (l ∷ ls) rest h k =
    rw (append_assoc l (line_feed ∷ ended_lines ls) rest) (begun_after-line [] l (ended_lines ls ++ rest) (All-head IsOneLine l ls h) ∙ rest_again ls rest (All-tail IsOneLine l ls h) k)

cut_alone : (text : List ℕ) (lines : List (List ℕ)) → IsCut text lines → lines ≡ lines_of text
cut_alone text lines c =
    rw (c.text_is, ended_again c.ended c.rest c.ended_are c.rest_is, rest_again c.ended c.rest c.ended_are c.rest_is) c.lines_are

pub IsCut-lines_of : (text : List ℕ) (lines : List (List ℕ)) → IsCut text lines ↔ (lines ≡ lines_of text)
IsCut-lines_of text lines = (cut_alone text lines, λ e. rw e (is_cut text))
