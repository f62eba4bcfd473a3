-- A line of the header gives what the rules of all lines say.
use Rattle.std.proofs.Common.{◌≡◌, ℕ, Bool, true, false, not, cond, ◌&&◌, eqb, List, [], ◌∷◌, ◌++◌, length, Option, Some, None, is_some, Result, Ok, Err, refl, sym, ◌∙◌, ap, subst, inl, inr, codes}
use Rattle.std.specs.Option.{option_or}
use Rattle.std.specs.Result.{result_err, result_ok}
use Rattle.std.specs.Str.{bytes_eq}
use Rattle.std.proofs.lemmas.Bool.{cases_Bool}
use Rattle.std.proofs.lemmas.Slice.Eq.{bytes_eq-Decides}
use Rattle.rv_text.specs.Bytes.{begins_with_dot}
use Rattle.rv_text.specs.Tokens.{Lexeme, joined}
use Rattle.rv_marks.specs.Row.{marks_of, constant_of, garbage_of}
use Rattle.rv_reader.specs.inside.laws.GivenLaws.{option_or-none, first_given-more}
use Rattle.rv_reader.specs.Rules.{◌>>=◌, broken, found_or}
use Rattle.rv_real.specs.declared.code.TheConstants as code
use Rattle.rv_real.specs.Header.{line_count, variable_names, labels_of, on_directive, numvars_in, names_in, input_labels_in, output_labels_in, constants_in, garbage_in, numvars_fault, entries_fault, each_fault, row_fault, begin_fault, is_refused, named_fault}
use Rattle.rv_real.specs.Reading.{circuit_given}
use Rattle.rv_real.specs.inside.Directives.{Header}
use Rattle.rv_real.specs.inside.HeaderSteps.{numvars_of, lines_declared, variables_of, inputs_of, outputs_of, constants_of, garbage_row_of, begin_of, named_directive, directive_of}
use Rattle.rv_real.specs.inside.State.{in_body}

-- a step, by the fault that it finds
abbrev pub step_of : {A : Type 0} → Option ℕ → A → Result A ℕ
step_of None x = Ok x
step_of (Some fault) x = Err fault

-- ---- the directives after lines of a header

header_same : (h k : Header) → h.numvars ≡ k.numvars → h.names ≡ k.names → h.input_labels ≡ k.input_labels
    → h.output_labels ≡ k.output_labels → h.constants ≡ k.constants → h.garbage ≡ k.garbage → h ≡ k
header_same h k a b c d e f =
    ap (λ x. record h { numvars = x }) a
    ∙ ap (λ x. record h { numvars = k.numvars; names = x }) b
    ∙ ap (λ x. record h { numvars = k.numvars; names = k.names; input_labels = x }) c
    ∙ ap (λ x. record k { output_labels = x; constants = h.constants; garbage = h.garbage }) d
    ∙ ap (λ x. record k { constants = x; garbage = h.garbage }) e
    ∙ ap (λ x. record k { garbage = x }) f

abbrev pub given_in : List (List Lexeme) → Header
given_in header =
    record {
      numvars = numvars_in header;
      names = names_in header;
      input_labels = input_labels_in header;
      output_labels = output_labels_in header;
      constants = constants_in header;
      garbage = garbage_in header;
    }

-- after one more line
abbrev pub given_after : List (List Lexeme) → List Lexeme → Header
given_after before line =
    record {
      numvars = option_or (numvars_in before) (on_directive (codes ".numvars") (λ ws. result_ok (line_count ws)) line);
      names =
          option_or (names_in before) (on_directive (codes ".variables") (λ ws. result_ok (variable_names ws)) line);
      input_labels =
          option_or (input_labels_in before) (on_directive (codes ".inputs") (λ ws. result_ok (labels_of ws)) line);
      output_labels =
          option_or (output_labels_in before) (on_directive (codes ".outputs") (λ ws. result_ok (labels_of ws)) line);
      constants =
          option_or (constants_in before)
          (on_directive (codes ".constants") (λ ws. marks_of constant_of (joined ws)) line);
      garbage =
          option_or (garbage_in before) (on_directive (codes ".garbage") (λ ws. marks_of garbage_of (joined ws)) line);
    }

pub given_more : (before : List (List Lexeme)) (line : List Lexeme)
    → given_in (before ++ line ∷ []) ≡ given_after before line
given_more before line =
    header_same (given_in (before ++ line ∷ [])) (given_after before line)
    (first_given-more (on_directive (codes ".numvars") (λ ws. result_ok (line_count ws))) before line)
    (first_given-more (on_directive (codes ".variables") (λ ws. result_ok (variable_names ws))) before line)
    (first_given-more (on_directive (codes ".inputs") (λ ws. result_ok (labels_of ws))) before line)
    (first_given-more (on_directive (codes ".outputs") (λ ws. result_ok (labels_of ws))) before line)
    (first_given-more (on_directive (codes ".constants") (λ ws. marks_of constant_of (joined ws))) before line)
    (first_given-more (on_directive (codes ".garbage") (λ ws. marks_of garbage_of (joined ws))) before line)

-- ---- a directive

once_step : {A : Type 0} (given : Option A) (r : Result A ℕ) (put : Option A → Header)
    → broken (is_some given) code.DIRECTIVE_OUT_OF_PLACE (r >>= λ x. Ok (put (Some x)))
    ≡ step_of (cond (is_some given) (Some code.DIRECTIVE_OUT_OF_PLACE) (result_err r))
    (put (option_or given (result_ok r)))
once_step (Some x) r put = refl
once_step None (Ok x) put = refl
once_step None (Err fault) put = refl

entries_step : {A : Type 0} (numvars : Option ℕ) (given value : Option A) (fault : ℕ → Option ℕ)
    (rules : ℕ → Result Header ℕ) (put : Option A → Header)
    → ((lines : ℕ) → rules lines ≡ step_of (fault lines) (put value))
    → (lines_declared numvars (is_some given) >>= rules)
    ≡ step_of (entries_fault numvars given fault) (put (option_or given value))
entries_step None given value fault rules put each = refl
entries_step (Some lines) (Some x) value fault rules put each = refl
entries_step (Some lines) None value fault rules put each = each lines

each_step : {A : Type 0} (fits : Bool) (r : Result A ℕ) (put : Option A → Header)
    → (broken (not fits) code.WRONG_LABEL_COUNT r >>= λ x. Ok (put (Some x)))
    ≡ step_of (cond fits (result_err r) (Some code.WRONG_LABEL_COUNT)) (put (result_ok r))
each_step true (Ok x) put = refl
each_step true (Err fault) put = refl
each_step false r put = refl

row_step : {M : Type 0} (fits : Bool) (marks : Option (List M)) (put : Option (List M) → Header)
    → (found_or code.WRONG_MARK_ROW (cond fits marks None) >>= λ row. Ok (put (Some row)))
    ≡ step_of (cond (is_some (cond fits marks None)) None (Some code.WRONG_MARK_ROW)) (put marks)
row_step true (Some marks) put = refl
row_step true None put = refl
row_step false marks put = refl

-- a name that is this one, or another
by_name : (bytes name : List ℕ) (P : List ℕ → Type 0) → P name → (bytes_eq bytes name ≡ false → P bytes) → P bytes
by_name bytes name P here other = elim (cases_Bool (bytes_eq bytes name)) [
  | inl is ↦ subst P (sym ((bytes_eq-Decides bytes name).0 is)) here
  | inr unlike ↦ other unlike
]

-- the names that are refused
refused_step : (refused is_end dot : Bool) (next : Header)
    → cond refused (Err code.NOT_SUPPORTED) (cond is_end (Err code.DIRECTIVE_OUT_OF_PLACE)
    (cond dot (Err code.UNKNOWN_DIRECTIVE) (Err code.MISSING_DIRECTIVE)))
    ≡ step_of (cond refused (Some code.NOT_SUPPORTED) (cond is_end (Some code.DIRECTIVE_OUT_OF_PLACE)
    (cond dot (Some code.UNKNOWN_DIRECTIVE) (Some code.MISSING_DIRECTIVE)))) next
refused_step true is_end dot next = refl
refused_step false true dot next = refl
refused_step false false true next = refl
refused_step false false false next = refl

module _ (before : List (List Lexeme)) (closed : Bool) (ws : List Lexeme) where
  abbrev line_with : List ℕ → List Lexeme
  line_with name = record { bytes = name; quoted = false; closed = closed } ∷ ws

  abbrev IsStep : List ℕ → Type 0
  IsStep name =
      named_directive (given_in before) name ws
      ≡ step_of (named_fault before name ws) (given_after before (line_with name))

  -- the directives that a line doesn't give stay
  numvars_same : numvars_in before ≡ option_or (numvars_in before) None
  numvars_same = sym (option_or-none (numvars_in before))

  names_same : names_in before ≡ option_or (names_in before) None
  names_same = sym (option_or-none (names_in before))

  inputs_same : input_labels_in before ≡ option_or (input_labels_in before) None
  inputs_same = sym (option_or-none (input_labels_in before))

  outputs_same : output_labels_in before ≡ option_or (output_labels_in before) None
  outputs_same = sym (option_or-none (output_labels_in before))

  constants_same : constants_in before ≡ option_or (constants_in before) None
  constants_same = sym (option_or-none (constants_in before))

  garbage_same : garbage_in before ≡ option_or (garbage_in before) None
  garbage_same = sym (option_or-none (garbage_in before))

  pub given_same : given_in before ≡ given_after before []
  given_same =
      header_same (given_in before)
      (given_after before []) numvars_same names_same inputs_same outputs_same constants_same garbage_same

  version_step : IsStep (codes ".version")
  unfolding named_directive named_fault
  version_step = ap Ok given_same

  inputbus_step : IsStep (codes ".inputbus")
  unfolding named_directive named_fault
  inputbus_step = ap Ok given_same

  outputbus_step : IsStep (codes ".outputbus")
  unfolding named_directive named_fault
  outputbus_step = ap Ok given_same

  state_step : IsStep (codes ".state")
  unfolding named_directive named_fault
  state_step = ap Ok given_same

  numvars_step : IsStep (codes ".numvars")
  unfolding named_directive named_fault numvars_of
  numvars_step =
      let next : Header =
      record (given_in before) { numvars = option_or (numvars_in before) (result_ok (line_count ws)) } in
      once_step (numvars_in before) (line_count ws) (λ x. record (given_in before) { numvars = x })
      ∙ ap (step_of (numvars_fault (numvars_in before) ws))
      (header_same next (given_after before (line_with (codes ".numvars"))) refl names_same inputs_same outputs_same
      constants_same garbage_same)

  variables_step : IsStep (codes ".variables")
  unfolding named_directive named_fault variables_of
  variables_step =
      let next : Header =
      record (given_in before) { names = option_or (names_in before) (result_ok (variable_names ws)) } in
      entries_step (numvars_in before) (names_in before) (result_ok (variable_names ws))
      (each_fault (variable_names ws) ws) _ (λ x. record (given_in before) { names = x })
      (λ lines. each_step (eqb (length ws) lines) (variable_names ws) (λ x. record (given_in before) { names = x }))
      ∙ ap (step_of (entries_fault (numvars_in before) (names_in before) (each_fault (variable_names ws) ws)))
      (header_same next (given_after before (line_with (codes ".variables"))) numvars_same refl inputs_same outputs_same
      constants_same garbage_same)

  inputs_step : IsStep (codes ".inputs")
  unfolding named_directive named_fault inputs_of
  inputs_step =
      let next : Header =
      record (given_in before) { input_labels = option_or (input_labels_in before) (result_ok (labels_of ws)) } in
      entries_step (numvars_in before) (input_labels_in before) (result_ok (labels_of ws))
      (each_fault (labels_of ws) ws) _ (λ x. record (given_in before) { input_labels = x })
      (λ lines. each_step (eqb (length ws) lines) (labels_of ws) (λ x. record (given_in before) { input_labels = x }))
      ∙ ap (step_of (entries_fault (numvars_in before) (input_labels_in before) (each_fault (labels_of ws) ws)))
      (header_same next (given_after before (line_with (codes ".inputs"))) numvars_same names_same refl outputs_same
      constants_same garbage_same)

  outputs_step : IsStep (codes ".outputs")
  unfolding named_directive named_fault outputs_of
  outputs_step =
      let next : Header =
      record (given_in before) { output_labels = option_or (output_labels_in before) (result_ok (labels_of ws)) } in
      entries_step (numvars_in before) (output_labels_in before) (result_ok (labels_of ws))
      (each_fault (labels_of ws) ws) _ (λ x. record (given_in before) { output_labels = x })
      (λ lines. each_step (eqb (length ws) lines) (labels_of ws) (λ x. record (given_in before) { output_labels = x }))
      ∙ ap (step_of (entries_fault (numvars_in before) (output_labels_in before) (each_fault (labels_of ws) ws)))
      (header_same next (given_after before (line_with (codes ".outputs"))) numvars_same names_same inputs_same refl
      constants_same garbage_same)

  constants_step : IsStep (codes ".constants")
  unfolding named_directive named_fault constants_of
  constants_step =
      let next : Header =
      record (given_in before) { constants = option_or (constants_in before) (marks_of constant_of (joined ws)) } in
      entries_step (numvars_in before) (constants_in before) (marks_of constant_of (joined ws))
      (row_fault constant_of ws) _ (λ x. record (given_in before) { constants = x })
      (λ lines. row_step (eqb (length (joined ws)) lines) (marks_of constant_of (joined ws))
      (λ x. record (given_in before) { constants = x }))
      ∙ ap (step_of (entries_fault (numvars_in before) (constants_in before) (row_fault constant_of ws)))
      (header_same next (given_after before (line_with (codes ".constants"))) numvars_same names_same inputs_same
      outputs_same refl garbage_same)

  garbage_step : IsStep (codes ".garbage")
  unfolding named_directive named_fault garbage_row_of
  garbage_step =
      let next : Header =
      record (given_in before) { garbage = option_or (garbage_in before) (marks_of garbage_of (joined ws)) } in
      entries_step (numvars_in before) (garbage_in before) (marks_of garbage_of (joined ws)) (row_fault garbage_of ws) _
      (λ x. record (given_in before) { garbage = x })
      (λ lines. row_step (eqb (length (joined ws)) lines) (marks_of garbage_of (joined ws))
      (λ x. record (given_in before) { garbage = x }))
      ∙ ap (step_of (entries_fault (numvars_in before) (garbage_in before) (row_fault garbage_of ws)))
      (header_same next (given_after before (line_with (codes ".garbage"))) numvars_same names_same inputs_same
      outputs_same constants_same refl)

  named_step : (name : List ℕ) → IsStep name
  unfolding named_directive named_fault
  named_step name =
      by_name name (codes ".version") IsStep version_step (λ a.
      by_name name (codes ".inputbus") IsStep inputbus_step (λ b.
      by_name name (codes ".outputbus") IsStep outputbus_step (λ c.
      by_name name (codes ".state") IsStep state_step (λ d.
      by_name name (codes ".numvars") IsStep numvars_step (λ e.
      by_name name (codes ".variables") IsStep variables_step (λ f.
      by_name name (codes ".inputs") IsStep inputs_step (λ g.
      by_name name (codes ".outputs") IsStep outputs_step (λ h.
      by_name name (codes ".constants") IsStep constants_step (λ i.
      by_name name (codes ".garbage") IsStep garbage_step (λ j.
      rw (a, b, c, d, e, f, g, h, i, j)
      (refused_step (is_refused name) (bytes_eq name (codes ".end")) (begins_with_dot name) _)))))))))))

-- a line of the header but `.begin`
pub directive_step : (before : List (List Lexeme)) (bytes : List ℕ) (quoted closed : Bool) (ws : List Lexeme) →
    directive_of (given_in before) (record { bytes = bytes; quoted = quoted; closed = closed }) ws
    ≡ step_of (cond quoted (Some code.MISSING_DIRECTIVE) (named_fault before bytes ws))
    (given_after before (record { bytes = bytes; quoted = quoted; closed = closed } ∷ ws))
directive_step before bytes true closed ws = refl
directive_step before bytes false closed ws = named_step before closed ws bytes

pub begin_step : (before : List (List Lexeme))
    → (begin_of (given_in before) >>= λ c. Ok (in_body c))
    ≡ step_of (begin_fault before) (in_body (circuit_given before []))
unfolding begin_of
begin_step before = elim (is_some (numvars_in before) && is_some (names_in before)) as (λ t.
    (broken (not t) code.MISSING_DIRECTIVE (Ok (circuit_given before [])) >>= λ c. Ok (in_body c))
    ≡ step_of (cond t None (Some code.MISSING_DIRECTIVE)) (in_body (circuit_given before []))) [
      | true ↦ refl
      | false ↦ refl
    ]
