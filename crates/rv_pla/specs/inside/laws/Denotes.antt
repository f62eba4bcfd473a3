-- Line by line a text gives what it denotes.
use Rattle.std.proofs.Common.{◌≡◌, ℕ, suc, ◌+◌, Bool, true, false, not, cond, ◌||◌, eqb, ltb, List, [], ◌∷◌, ◌++◌, length, map, Option, Some, None, is_some, Result, Ok, Err, refl, sym, ◌∙◌, ap, inl, inr, arith, append_assoc, length-append, codes}
use Rattle.std.specs.List.{list_any}
use Rattle.std.specs.Option.{option_map, option_or, unwrap_or}
use Rattle.std.specs.Result.{result_err, result_ok}
use Rattle.std.specs.Str.{bytes_eq}
use Rattle.std.proofs.lemmas.Bool.{cases_Bool, cond-true, cond-false, false≢true, ltb-false, true≢false}
use Rattle.std.proofs.lemmas.List.{append-nil, length-map, length_push, nil_from_length}
use Rattle.std.proofs.lemmas.Slice.Eq.{bytes_eq-Decides}
use Rattle.rv_text.specs.Lines.{lines_of}
use Rattle.rv_text.specs.Tokens.{Lexeme, joined}
use Rattle.rv_text.specs.declared.fault.TextFault.{TextFault}
use Rattle.rv_text.proofs.FirstFound.{before_first-cons}
use Rattle.rv_reader.specs.inside.laws.GivenLaws.{option_or-none, first_given-more, not_both, no_directive}
use Rattle.rv_reader.specs.Rules.{◌>>=◌, broken, on_line, lines_read, with_count, whole_of}
use Rattle.rv_reader.specs.Feeding.{faulted, text_as, object_of}
use Rattle.rv_pla.specs.declared.fault.PlaFault.TheVariants as faults
use Rattle.rv_pla.specs.declared.cube.TheConstants.{MOST_INPUTS, MOST_OUTPUTS}
use Rattle.rv_pla.specs.declared.code.TheConstants as code
use Rattle.rv_pla.specs.declared.kind.Kind.{Kind}
use Rattle.rv_pla.specs.declared.pla.TheConstants.{MOST_TERMS}
use Rattle.rv_pla.specs.Pla.{Term}
use Rattle.rv_pla.specs.Line.{words_of, size_of, kind_of, is_dropped, is_end, is_unsupported}
use Rattle.rv_text.specs.Bytes.{begins_with_dot}
use Rattle.rv_pla.specs.Row.{is_row, term_of}
use Rattle.rv_pla.specs.Given.{on_directive, inputs_in, outputs_in, kind_in, term_on, terms_from, terms_in, once, directive_fault, term_fault, fault_of, is_last}
use Rattle.rv_pla.specs.Reading.{read_lines, end_of, fault_in, pla_of}
use Rattle.rv_reader.specs.FirstFault.{first_fault, unless_text}
use Rattle.rv_pla.specs.inside.State.{Given, nothing_given}
use Rattle.rv_pla.specs.inside.Steps.{inputs_given, outputs_given, kind_given, directive_of, term_sized, line_by, line_of, line_rules, end_given, as_fault}

-- ---- terms

terms_from-more : (i before : ℕ) (lines : List (List Lexeme)) (line : List Lexeme)
    → terms_from i before (lines ++ line ∷ []) ≡ terms_from i before lines ++ term_on i (before + length lines + 1) line
terms_from-more i before [] line =
    let e : before + 1 ≡ before + 0 + 1 = omega arith in
    append-nil (term_on i (before + 1) line) ∙ ap (λ k. term_on i k line) e
terms_from-more i before (first ∷ lines) line =
    let e : before + 1 + length lines + 1 ≡ before + suc (length lines) + 1 = omega arith in
    ap (λ ts. term_on i (before + 1) first ++ ts)
    (terms_from-more i (before + 1) lines line ∙ ap (λ k. terms_from i (before + 1) lines ++ term_on i k line) e)
    ∙ sym (append_assoc (term_on i (before + 1) first) (terms_from i (before + 1) lines)
    (term_on i (before + suc (length lines) + 1) line))

-- there are as many, however many inputs they have
count_on : (i j number : ℕ) (line : List Lexeme) → length (term_on i number line) ≡ length (term_on j number line)
count_on i j number [] = refl
count_on i j number (word ∷ words) =
    elim (begins_with_dot word.bytes) as (λ b. length (cond b [] (term_of i number (joined (word ∷ words)) ∷ []))
    ≡ length (cond b [] (term_of j number (joined (word ∷ words)) ∷ []))) [ true ↦ refl | false ↦ refl ]

count_from : (i j before : ℕ) (lines : List (List Lexeme))
    → length (terms_from i before lines) ≡ length (terms_from j before lines)
count_from i j before [] = refl
count_from i j before (line ∷ lines) =
    length-append (term_on i (before + 1) line) (terms_from i (before + 1) lines)
    ∙ ap (λ n. n + length (terms_from i (before + 1) lines)) (count_on i j (before + 1) line)
    ∙ ap (λ n. length (term_on j (before + 1) line) + n) (count_from i j (before + 1) lines)
    ∙ sym (length-append (term_on j (before + 1) line) (terms_from j (before + 1) lines))

no_terms : (i j : ℕ) (lines : List (List Lexeme)) → ltb 0 (length (terms_from i 0 lines)) ≡ false
    → terms_from j 0 lines ≡ []
no_terms i j lines none =
    nil_from_length (terms_from j 0 lines) (count_from j i 0 lines ∙ zero (length (terms_from i 0 lines)) none)
  where
    zero : (n : ℕ) → ltb 0 n ≡ false → n ≡ 0
    zero n h = omega (arith, ltb-false 0 n h)

-- ---- the state after lines

abbrev given_in : Option ℕ → Option ℕ → Option Kind → List Term → Given
given_in inputs outputs kind terms =
    record { inputs = inputs; outputs = outputs; kind = kind; terms = terms; is_ended = false }

abbrev given_of : List (List Lexeme) → Given
given_of lines = given_in (inputs_in lines) (outputs_in lines) (kind_in lines) (terms_in lines)

given_same : (i j o p : Option ℕ) (k l : Option Kind) (s t : List Term) → i ≡ j → o ≡ p → k ≡ l → s ≡ t
    → given_in i o k s ≡ given_in j p l t
given_same i j o p k l s t a b c d =
    ap (λ x. given_in x o k s) a ∙ ap (λ x. given_in j x k s) b ∙ ap (λ x. given_in j p x s) c ∙ ap (given_in j p l) d

module _ (before : List (List Lexeme)) (line : List Lexeme) where
  abbrev inputs_after : Option ℕ
  inputs_after = option_or (inputs_in before) (on_directive (codes ".i") (size_of MOST_INPUTS) line)

  abbrev outputs_after : Option ℕ
  outputs_after = option_or (outputs_in before) (on_directive (codes ".o") (size_of MOST_OUTPUTS) line)

  abbrev kind_after : Option Kind
  kind_after = option_or (kind_in before) (on_directive (codes ".type") kind_of line)

  abbrev terms_after : List Term
  terms_after =
      terms_from (unwrap_or inputs_after 0) 0 before ++ term_on (unwrap_or inputs_after 0) (length before + 1) line

  -- after one more line
  abbrev after : Given
  after = given_in inputs_after outputs_after kind_after terms_after

  given_more : given_of (before ++ line ∷ []) ≡ after
  given_more =
      let e : 0 + length before + 1 ≡ length before + 1 = omega arith in
      let inputs = first_given-more (on_directive (codes ".i") (size_of MOST_INPUTS)) before line in
      given_same _ _ _ _ _ _ _ _ inputs
      (first_given-more (on_directive (codes ".o") (size_of MOST_OUTPUTS)) before line)
      (first_given-more (on_directive (codes ".type") kind_of) before line)
      (ap (λ i. terms_from (unwrap_or i 0) 0 (before ++ line ∷ [])) inputs
      ∙ terms_from-more (unwrap_or inputs_after 0) 0 before line
      ∙ ap (λ k. terms_from (unwrap_or inputs_after 0) 0 before ++ term_on (unwrap_or inputs_after 0) k line) e)

-- ---- one line more

step_of : Option ℕ → Given → Result Given ℕ
step_of None given = Ok given
step_of (Some code) given = Err code

given_named : {A : Type 0} (name : List ℕ) (value_of : List Lexeme → Result A ℕ) (word : Lexeme) (words : List Lexeme)
    → bytes_eq word.bytes name ≡ true
    → on_directive name value_of (word ∷ words) ≡ result_ok (value_of words)
given_named name value_of word words is = cond-true (bytes_eq word.bytes name) _ _ is

given_other : {A : Type 0} (name : List ℕ) (value_of : List Lexeme → Result A ℕ) (word : Lexeme) (words : List Lexeme)
    (old : Option A) → bytes_eq word.bytes name ≡ false
    → old ≡ option_or old (on_directive name value_of (word ∷ words))
given_other name value_of word words old is =
    sym (ap (option_or old) (cond-false (bytes_eq word.bytes name) (result_ok (value_of words)) None is)
    ∙ option_or-none old)

once_step : {A : Type 0} (so_far : Option A) (late : Bool) (value : Result A ℕ) (put : Option A → Given)
    → broken (is_some so_far || late) code.DIRECTIVE_OUT_OF_PLACE (value >>= λ x. Ok (put (Some x)))
    ≡ step_of (cond (is_some so_far || late) (Some code.DIRECTIVE_OUT_OF_PLACE) (result_err value))
    (put (option_or so_far (result_ok value)))
unfolding step_of
once_step (Some x) late value put = refl
once_step None true value put = refl
once_step None false (Ok x) put = refl
once_step None false (Err code) put = refl

-- the state counts only where there is no fault
step_same : (t : Bool) (fault : ℕ) (other : Option ℕ) (a b : Given) → (t ≡ false → a ≡ b)
    → step_of (cond t (Some fault) other) a ≡ step_of (cond t (Some fault) other) b
unfolding step_of
step_same true fault other a b h = refl
step_same false fault other a b h = ap (step_of other) (h refl)

not_late : (a b : Bool) → (a || b) ≡ false → b ≡ false
not_late true b h = absurd (true≢false h)
not_late false b h = h

module _ (before : List (List Lexeme)) (word : Lexeme) (words : List Lexeme)
    (dot : begins_with_dot word.bytes ≡ true) where
  abbrev line : List Lexeme
  line = word ∷ words

  -- a directive has no term
  terms_only : (i : ℕ) → terms_from i 0 before ≡ terms_from i 0 before ++ term_on i (length before + 1) line
  terms_only i =
      sym (append-nil (terms_from i 0 before)) ∙ ap (λ ts. terms_from i 0 before ++ ts)
      (sym (cond-true (begins_with_dot word.bytes) [] (term_of i (length before + 1) (joined line) ∷ []) dot))

  -- nor has one that doesn't give inputs another number of them
  terms_stay : bytes_eq word.bytes (codes ".i") ≡ false → terms_in before ≡ terms_after before line
  terms_stay other =
      terms_only (unwrap_or (inputs_in before) 0)
      ∙ ap (λ i. terms_from (unwrap_or i 0) 0 before ++ term_on (unwrap_or i 0) (length before + 1) line)
      (given_other (codes ".i") (size_of MOST_INPUTS) word words (inputs_in before) other)

  inputs_step : bytes_eq word.bytes (codes ".i") ≡ true
      → inputs_given (given_of before) words
      ≡ step_of (once before (inputs_in before) (size_of MOST_INPUTS words)) (after before line)
  inputs_step is =
      let late : Bool = ltb 0 (length (terms_in before)) in
      let value : Result ℕ ℕ = size_of MOST_INPUTS words in
      once_step (inputs_in before) late value (λ inputs. record (given_of before) { inputs = inputs })
      ∙ step_same (is_some (inputs_in before) || late) code.DIRECTIVE_OUT_OF_PLACE (result_err value) _ _
      (λ in_time.
      let none = not_late (is_some (inputs_in before)) late in_time in
      given_same _ _ _ _ _ _ _ _
      (ap (option_or (inputs_in before)) (sym (given_named (codes ".i") (size_of MOST_INPUTS) word words is)))
      (given_other (codes ".o") (size_of MOST_OUTPUTS) word words (outputs_in before)
      (not_both word.bytes (codes ".i") (codes ".o") refl is))
      (given_other (codes ".type") kind_of word words (kind_in before)
      (not_both word.bytes (codes ".i") (codes ".type") refl is))
      (no_terms (unwrap_or (inputs_in before) 0) (unwrap_or (inputs_in before) 0) before none
      ∙ sym (no_terms (unwrap_or (inputs_in before) 0) (unwrap_or (inputs_after before line) 0) before none)
      ∙ terms_only (unwrap_or (inputs_after before line) 0)))

  outputs_step : bytes_eq word.bytes (codes ".i") ≡ false → bytes_eq word.bytes (codes ".o") ≡ true
      → outputs_given (given_of before) words
      ≡ step_of (once before (outputs_in before) (size_of MOST_OUTPUTS words)) (after before line)
  outputs_step no_inputs is =
      let late : Bool = ltb 0 (length (terms_in before)) in
      let value : Result ℕ ℕ = size_of MOST_OUTPUTS words in
      once_step (outputs_in before) late value (λ outputs. record (given_of before) { outputs = outputs })
      ∙ ap (step_of (cond (is_some (outputs_in before) || late) (Some code.DIRECTIVE_OUT_OF_PLACE) (result_err value)))
      (given_same _ _ _ _ _ _ _ _
      (given_other (codes ".i") (size_of MOST_INPUTS) word words (inputs_in before) no_inputs)
      (ap (option_or (outputs_in before)) (sym (given_named (codes ".o") (size_of MOST_OUTPUTS) word words is)))
      (given_other (codes ".type") kind_of word words (kind_in before)
      (not_both word.bytes (codes ".o") (codes ".type") refl is))
      (terms_stay no_inputs))

  kind_step : bytes_eq word.bytes (codes ".i") ≡ false → bytes_eq word.bytes (codes ".o") ≡ false
      → bytes_eq word.bytes (codes ".type") ≡ true
      → kind_given (given_of before) words ≡ step_of (once before (kind_in before) (kind_of words)) (after before line)
  kind_step no_inputs no_outputs is =
      let late : Bool = ltb 0 (length (terms_in before)) in
      let value : Result Kind ℕ = kind_of words in
      once_step (kind_in before) late value (λ kind. record (given_of before) { kind = kind })
      ∙ ap (step_of (cond (is_some (kind_in before) || late) (Some code.DIRECTIVE_OUT_OF_PLACE) (result_err value)))
      (given_same _ _ _ _ _ _ _ _
      (given_other (codes ".i") (size_of MOST_INPUTS) word words (inputs_in before) no_inputs)
      (given_other (codes ".o") (size_of MOST_OUTPUTS) word words (outputs_in before) no_outputs)
      (ap (option_or (kind_in before)) (sym (given_named (codes ".type") kind_of word words is)))
      (terms_stay no_inputs))

  nothing_step : bytes_eq word.bytes (codes ".i") ≡ false → bytes_eq word.bytes (codes ".o") ≡ false
      → bytes_eq word.bytes (codes ".type") ≡ false → given_of before ≡ after before line
  nothing_step no_inputs no_outputs no_kind =
      given_same _ _ _ _ _ _ _ _
      (given_other (codes ".i") (size_of MOST_INPUTS) word words (inputs_in before) no_inputs)
      (given_other (codes ".o") (size_of MOST_OUTPUTS) word words (outputs_in before) no_outputs)
      (given_other (codes ".type") kind_of word words (kind_in before) no_kind)
      (terms_stay no_inputs)

  named_step : (i o t d e u : Bool) → bytes_eq word.bytes (codes ".i") ≡ i → bytes_eq word.bytes (codes ".o") ≡ o
      → bytes_eq word.bytes (codes ".type") ≡ t → e ≡ false
      → cond i (inputs_given (given_of before) words)
      (cond o (outputs_given (given_of before) words) (cond t (kind_given (given_of before) words)
      (cond d (Ok (given_of before)) (cond e (Ok (record (given_of before) { is_ended = true }))
      (cond u (Err code.NOT_SUPPORTED) (Err code.UNKNOWN_DIRECTIVE))))))
      ≡ step_of (cond i (once before (inputs_in before) (size_of MOST_INPUTS words))
      (cond o (once before (outputs_in before) (size_of MOST_OUTPUTS words))
      (cond t (once before (kind_in before) (kind_of words))
      (cond d None (cond e None (cond u (Some code.NOT_SUPPORTED) (Some code.UNKNOWN_DIRECTIVE)))))))
      (after before line)
  unfolding step_of
  named_step true o t d e u is no_o no_t lasts = inputs_step is
  named_step false true t d e u no_i is no_t lasts = outputs_step no_i is
  named_step false false true d e u no_i no_o is lasts = kind_step no_i no_o is
  named_step false false false true e u no_i no_o no_t lasts = ap Ok (nothing_step no_i no_o no_t)
  named_step false false false false true u no_i no_o no_t lasts = absurd (true≢false lasts)
  named_step false false false false false true no_i no_o no_t lasts = refl
  named_step false false false false false false no_i no_o no_t lasts = refl

  directive_step : is_end word.bytes ≡ false
      → directive_of (given_of before) word.bytes words
      ≡ step_of (directive_fault before word.bytes words) (after before line)
  unfolding directive_of directive_fault
  directive_step goes_on =
      named_step (bytes_eq word.bytes (codes ".i")) (bytes_eq word.bytes (codes ".o"))
      (bytes_eq word.bytes (codes ".type")) (is_dropped word.bytes) (is_end word.bytes)
      (is_unsupported word.bytes) refl refl refl goes_on

three_rules : (a b c : Bool) (x y z : ℕ) (given : Given)
    → broken a x (broken b y (broken c z (Ok given)))
    ≡ step_of (cond a (Some x) (cond b (Some y) (cond c (Some z) None))) given
unfolding step_of
three_rules true b c x y z given = refl
three_rules false true c x y z given = refl
three_rules false false true x y z given = refl
three_rules false false false x y z given = refl

sized_step : (before : List (List Lexeme)) (i o : Option ℕ) (number : ℕ) (row : List ℕ)
    → term_sized i o (given_of before) number row
    ≡ step_of (term_fault before i o row) (given_in (inputs_in before) (outputs_in before) (kind_in before)
    (terms_in before ++ term_of (unwrap_or i 0) number row ∷ []))
unfolding step_of
sized_step before None o number row = refl
sized_step before (Some i) None number row = refl
sized_step before (Some i) (Some o) number row =
    three_rules (not (eqb (length row) (i + o))) (not (is_row i row)) (not (ltb (length (terms_in before)) MOST_TERMS))
    code.WRONG_TERM_LENGTH code.WRONG_CHARACTER code.TOO_MANY_TERMS
    (given_in (inputs_in before) (outputs_in before) (kind_in before) (terms_in before ++ term_of i number row ∷ []))

term_step : (before : List (List Lexeme)) (word : Lexeme) (words : List Lexeme) → begins_with_dot word.bytes ≡ false
    → term_sized (inputs_in before) (outputs_in before) (given_of before) (length before + 1) (joined (word ∷ words))
    ≡ step_of (term_fault before (inputs_in before) (outputs_in before) (joined (word ∷ words)))
    (after before (word ∷ words))
term_step before word words none =
    let line : List Lexeme = word ∷ words in
    let number : ℕ = length before + 1 in
    let inputs =
    given_other (codes ".i") (size_of MOST_INPUTS) word words (inputs_in before)
    (no_directive word.bytes (codes ".i") refl none) in
    sized_step before (inputs_in before) (outputs_in before) number (joined line)
    ∙ ap (step_of (term_fault before (inputs_in before) (outputs_in before) (joined line)))
    (given_same _ _ _ _ _ _ _ _ inputs
    (given_other (codes ".o") (size_of MOST_OUTPUTS) word words (outputs_in before)
    (no_directive word.bytes (codes ".o") refl none))
    (given_other (codes ".type") kind_of word words (kind_in before)
    (no_directive word.bytes (codes ".type") refl none))
    (ap (λ ts. terms_in before ++ ts) (sym (cond-false (begins_with_dot word.bytes) []
    (term_of (unwrap_or (inputs_in before) 0) number (joined line) ∷ []) none))
    ∙ ap (λ i. terms_from (unwrap_or i 0) 0 before ++ term_on (unwrap_or i 0) number line) inputs))

line_step : (before : List (List Lexeme)) (line : List Lexeme) → is_last line ≡ false
    → line_by (given_of before) (length before + 1) line ≡ step_of (fault_of before line) (after before line)
unfolding step_of
line_step before [] goes_on =
    ap Ok (given_same _ _ _ _ _ _ _ _ (sym (option_or-none (inputs_in before)))
    (sym (option_or-none (outputs_in before))) (sym (option_or-none (kind_in before)))
    (ap (λ i. terms_from (unwrap_or i 0) 0 before) (sym (option_or-none (inputs_in before)))
    ∙ sym (append-nil (terms_from (unwrap_or (option_or (inputs_in before) None) 0) 0 before))))
line_step before (word ∷ words) goes_on =
    elim (cases_Bool (begins_with_dot word.bytes)) [
      | inl dot ↦
          cond-true (begins_with_dot word.bytes) _ _ dot ∙ directive_step before word words dot goes_on
          ∙ ap (λ f. step_of f (after before (word ∷ words))) (sym (cond-true (begins_with_dot word.bytes) _ _ dot))
      | inr none ↦
          cond-false (begins_with_dot word.bytes) _ _ none ∙ term_step before word words none
          ∙ ap (λ f. step_of f (after before (word ∷ words))) (sym (cond-false (begins_with_dot word.bytes) _ _ none))
    ]

-- ---- the last line

short_end : (given : Given) (words : List Lexeme)
    → directive_of given (codes ".e") words ≡ Ok (record given { is_ended = true })
unfolding directive_of is_dropped is_end
short_end given words = refl

long_end : (given : Given) (words : List Lexeme)
    → directive_of given (codes ".end") words ≡ Ok (record given { is_ended = true })
unfolding directive_of is_dropped is_end
long_end given words = refl

end_named : (given : Given) (bytes : List ℕ) (words : List Lexeme) → is_end bytes ≡ true
    → (begins_with_dot bytes ≡ true) × (directive_of given bytes words ≡ Ok (record given { is_ended = true }))
unfolding is_end
end_named given bytes words h = elim (cases_Bool (bytes_eq bytes (codes ".e"))) [
  | inl is ↦ named (codes ".e") ((bytes_eq-Decides bytes (codes ".e")).0 is) (refl, short_end given words)
  | inr other ↦
      (let is : bytes_eq bytes (codes ".end") ≡ true = ap (λ b. b || bytes_eq bytes (codes ".end")) (sym other) ∙ h in
      named (codes ".end") ((bytes_eq-Decides bytes (codes ".end")).0 is) (refl, long_end given words))
]
  where
    named : (name : List ℕ) → bytes ≡ name
        → (begins_with_dot name ≡ true) × (directive_of given name words ≡ Ok (record given { is_ended = true }))
        → (begins_with_dot bytes ≡ true) × (directive_of given bytes words ≡ Ok (record given { is_ended = true }))
    named name e p = (ap begins_with_dot e ∙ p.0, ap (λ b. directive_of given b words) e ∙ p.1)

last_step : (given : Given) (number : ℕ) (line : List Lexeme) → is_last line ≡ true
    → line_by given number line ≡ Ok (record given { is_ended = true })
last_step given number [] h = absurd (false≢true h)
last_step given number (word ∷ words) h =
    let p = end_named given word.bytes words h in cond-true (begins_with_dot word.bytes) _ _ p.0 ∙ p.1

rest_dropped : (given : Given) (before : ℕ) (lines : List (List ℕ)) → given.is_ended ≡ true
    → lines_read line_rules before given lines ≡ Ok given
unfolding line_of
rest_dropped given before [] h = refl
rest_dropped given before (line ∷ lines) h =
    ap (λ step. on_line (before + 1) step >>= λ next. lines_read line_rules (before + 1) next lines)
    (cond-true given.is_ended (Ok given) (line_by given (before + 1) (words_of line)) h)
    ∙ rest_dropped given (before + 1) lines h

-- ---- all lines

read_as : Option TextFault → Given → Result Given TextFault
read_as None given = Ok given
read_as (Some fault) given = Err fault

abbrev given_all : List (List Lexeme) → List (List Lexeme) → Given
given_all before lines = record (given_of (before ++ read_lines lines)) { is_ended = list_any is_last lines }

module _ (line : List ℕ) (lines : List (List ℕ)) (before : List (List Lexeme)) where
  abbrev words : List Lexeme
  words = words_of line

  abbrev rest : List (List Lexeme)
  rest = map words_of lines

  -- what is read from the first line on
  read_from : (last : Bool) → is_last words ≡ last
      → lines_read line_rules (length (before ++ words ∷ [])) (given_of (before ++ words ∷ [])) lines
      ≡ read_as (first_fault fault_of (before ++ words ∷ []) (read_lines rest))
      (given_all (before ++ words ∷ []) rest)
      → (on_line (length before + 1) (line_by (given_of before) (length before + 1) words)
      >>= λ next. lines_read line_rules (length before + 1) next lines)
      ≡ read_as (first_fault fault_of before (cond last [] (words ∷ read_lines rest))) (record (given_of
      (before ++ cond last [] (words ∷ read_lines rest))) { is_ended = last || list_any is_last rest })
  unfolding read_as step_of
  read_from true is next =
      ap (λ step. on_line (length before + 1) step >>= λ next. lines_read line_rules (length before + 1) next lines)
      (last_step (given_of before) (length before + 1) words is)
      ∙ rest_dropped (record (given_of before) { is_ended = true }) (length before + 1) lines refl
      ∙ ap (λ ls. Ok (record (given_of ls) { is_ended = true })) (sym (append-nil before))
  read_from false is next =
      let number : ℕ = length before + 1 in
      let count : length (before ++ words ∷ []) ≡ number = length_push before words in
      ap (λ step. on_line number step >>= λ next. lines_read line_rules number next lines) (line_step before words is)
      ∙ (elim (fault_of before words) as (λ f.
      (on_line number (step_of f (after before words)) >>= λ next. lines_read line_rules number next lines)
      ≡ read_as (option_or (option_map (λ code. record { line = number; code = code }) f)
      (first_fault fault_of (before ++ words ∷ []) (read_lines rest)))
      (record (given_of (before ++ (words ∷ read_lines rest))) { is_ended = list_any is_last rest })) [
        | None ↦
            ap (λ given. lines_read line_rules number given lines) (sym (given_more before words))
            ∙ ap (λ k. lines_read line_rules k (given_of (before ++ words ∷ [])) lines) (sym count)
            ∙ next
            ∙ ap (λ ls. read_as (first_fault fault_of (before ++ words ∷ []) (read_lines rest))
            (record (given_of ls) { is_ended = list_any is_last rest }))
            (append_assoc before (words ∷ []) (read_lines rest))
        | Some code ↦ refl
      ])

reads : (lines : List (List ℕ)) (before : List (List Lexeme))
    → lines_read line_rules (length before) (given_of before) lines
    ≡ read_as (first_fault fault_of before (read_lines (map words_of lines)))
    (given_all before (map words_of lines))
unfolding read_as line_of
reads [] before = ap (λ ls. Ok (given_of ls)) (sym (append-nil before))
reads (line ∷ lines) before =
    read_from line lines before (is_last (words_of line)) refl (reads lines (before ++ words_of line ∷ []))
    ∙ ap (λ ls. read_as (first_fault fault_of before ls)
    (record (given_of (before ++ ls)) { is_ended = list_any is_last (map words_of (line ∷ lines)) }))
    (sym (before_first-cons is_last (words_of line) (map words_of lines)))

-- the rules find the first fault
pub finds : (lines : List (List ℕ)) → result_err (lines_read line_rules 0 nothing_given lines) ≡ fault_in lines
unfolding read_as
finds lines = ap result_err (reads lines []) ∙ fault_read (fault_in lines) (given_all [] (map words_of lines))
  where
    fault_read : (f : Option TextFault) (given : Given) → result_err (read_as f given) ≡ f
    fault_read None given = refl
    fault_read (Some fault) given = refl

pub denotes : (text : List ℕ) → object_of line_rules as_fault end_given text ≡ pla_of text
unfolding object_of whole_of pla_of read_as
denotes text =
    let lines : List (List Lexeme) = map words_of (lines_of text) in
    ap (λ all. faulted (text_as as_fault) (all >>= with_count (length (lines_of text))) >>= end_given)
    (reads (lines_of text) [])
    ∙ (elim (first_fault fault_of [] (read_lines lines)) as (λ f.
    (faulted (text_as as_fault) (read_as f (given_all [] lines) >>= with_count (length (lines_of text)))
    >>= end_given) ≡ unless_text faults.Text f (end_of (length lines) (read_lines lines))) [
      | None ↦ ap (λ n. end_of n (read_lines lines)) (sym (length-map (lines_of text) words_of))
      | Some fault ↦ refl
    ])
