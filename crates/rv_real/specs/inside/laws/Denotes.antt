-- Line by line a text gives what it denotes.
use Rattle.std.proofs.Common.{◌≡◌, ℕ, ◌+◌, Bool, true, false, not, cond, ◌&&◌, ◌||◌, ltb, List, [], ◌∷◌, ◌++◌, length, map, Option, Some, None, Result, Ok, Err, refl, sym, ◌∙◌, ap, inl, inr, append_assoc, codes}
use Rattle.std.specs.List.{list_any, before_first, after_first}
use Rattle.std.specs.Option.{option_map, option_or, option_to_list}
use Rattle.std.specs.Result.{result_err, result_ok}
use Rattle.std.specs.Str.{bytes_eq}
use Rattle.std.proofs.lemmas.Bool.{cases_Bool, cond-true, cond-false}
use Rattle.std.proofs.lemmas.Grind.{flat_map-append}
use Rattle.std.proofs.lemmas.List.{append-nil, length_push, length-map}
use Rattle.std.proofs.lemmas.List.Folds.{list_any-append}
use Rattle.std.proofs.lemmas.Slice.Eq.{bytes_eq-Decides}
use Rattle.rv_text.specs.Bytes.{begins_with_dot}
use Rattle.rv_text.specs.Lines.{lines_of}
use Rattle.rv_text.proofs.FirstFound.{before_first-cons, after_first-cons}
use Rattle.rv_text.specs.Tokens.{Lexeme, tokens_of}
use Rattle.rv_text.specs.declared.fault.TextFault.{TextFault}
use Rattle.rv_gate.specs.Circuit.{Cascade}
use Rattle.rv_gate.specs.declared.circuit.TheConstants.{MOST_GATES}
use Rattle.rv_gate.specs.declared.gate.Shape.{Shape}
use Rattle.rv_reader.specs.Rules.{◌>>=◌, broken, on_line, lines_read, with_count, whole_of}
use Rattle.rv_reader.specs.FirstFault.{first_fault, unless_text}
use Rattle.rv_reader.specs.Feeding.{faulted, text_as, object_of}
use Rattle.rv_real.specs.declared.code.TheConstants as code
use Rattle.rv_real.specs.declared.fault.RealFault.TheVariants as faults
use Rattle.rv_real.specs.declared.line.State.{State}
use Rattle.rv_real.specs.declared.line.State.TheVariants as states
use Rattle.rv_real.specs.Rules.{is_bare}
use Rattle.rv_real.specs.Header.{begin_fault, named_fault, header_fault}
use Rattle.rv_real.specs.Body.{gate_of, gates_by, gates_of_body, room_fault, body_fault}
use Rattle.rv_real.specs.Reading.{token_lines, begins_with, header_in, is_begun, body_in, is_ended, names_so_far, part_fault, is_unclosed, fault_of, circuit_given, end_of as all_of, fault_in, real_of}
use Rattle.rv_real.specs.inside.Directives.{Header, no_directives}
use Rattle.rv_real.specs.inside.BodySteps.{with_gate}
use Rattle.rv_real.specs.inside.State.{in_header, in_body, after_end, header_line, body_line, line_in, line_of, line_rules, end_in, end_of, as_fault}
use Rattle.rv_real.specs.inside.laws.HeaderLines.{step_of, given_in, given_after, given_more, given_same, directive_step, begin_step}

-- ---- the parts of a text with one line more

before_found : (name : List ℕ) (lines : List (List Lexeme)) (line : List Lexeme)
    → list_any (begins_with name) lines ≡ true
    → before_first (begins_with name) (lines ++ line ∷ []) ≡ before_first (begins_with name) lines
before_found name [] line is = absurd cc
before_found name (x ∷ lines) line is =
    rw (before_first-cons (begins_with name) x lines, before_first-cons (begins_with name) x (lines ++ line ∷ []))
    (elim (cases_Bool (begins_with name x)) [
      | inl here ↦ rw here refl
      | inr other ↦ rw other (ap (λ ls. x ∷ ls) (before_found name lines line (rw other at is)))
    ])

after_found : (name : List ℕ) (lines : List (List Lexeme)) (line : List Lexeme)
    → list_any (begins_with name) lines ≡ true
    → after_first (begins_with name) (lines ++ line ∷ []) ≡ after_first (begins_with name) lines ++ line ∷ []
after_found name [] line is = absurd cc
after_found name (x ∷ lines) line is =
    rw (after_first-cons (begins_with name) x lines, after_first-cons (begins_with name) x (lines ++ line ∷ []))
    (elim (cases_Bool (begins_with name x)) [
      | inl here ↦ rw here refl
      | inr other ↦ rw other (after_found name lines line (rw other at is))
    ])

before_here : (name : List ℕ) (lines : List (List Lexeme)) (line : List Lexeme)
    → list_any (begins_with name) lines ≡ false → begins_with name line ≡ true
    → before_first (begins_with name) (lines ++ line ∷ []) ≡ lines
before_here name [] line none is = rw is refl
before_here name (x ∷ lines) line none is = rw before_first-cons (elim (cases_Bool (begins_with name x)) [
  | inl here ↦ absurd (let no = rw here at none in cc)
  | inr other ↦ rw other (ap (λ ls. x ∷ ls) (before_here name lines line (rw other at none) is))
])

after_here : (name : List ℕ) (lines : List (List Lexeme)) (line : List Lexeme)
    → list_any (begins_with name) lines ≡ false → after_first (begins_with name) (lines ++ line ∷ []) ≡ []
after_here name [] line none =
    rw after_first-cons
    (elim (begins_with name line) as (λ t. cond {A = List (List Lexeme)} t [] [] ≡ []) [ true ↦ refl | false ↦ refl ])
after_here name (x ∷ lines) line none = rw after_first-cons (elim (cases_Bool (begins_with name x)) [
  | inl here ↦ absurd (let no = rw here at none in cc)
  | inr other ↦ rw other (after_here name lines line (rw other at none))
])

none_after : (name : List ℕ) (lines : List (List Lexeme)) → list_any (begins_with name) lines ≡ false
    → after_first (begins_with name) lines ≡ []
none_after name [] none = refl
none_after name (x ∷ lines) none = rw after_first-cons (elim (cases_Bool (begins_with name x)) [
  | inl here ↦ absurd (let no = rw here at none in cc)
  | inr other ↦ rw other (none_after name lines (rw other at none))
])

-- ---- the state after lines

-- by whether the body has begun, the header, and the body
abbrev state_by : Bool → List (List Lexeme) → List (List Lexeme) → List (List Lexeme) → State
state_by false lines header body = in_header (given_in lines)
state_by true lines header body = states.Gates (circuit_given header body) (is_ended body)

abbrev state_of : List (List Lexeme) → State
state_of lines = state_by (is_begun lines) lines (header_in lines) (body_in lines)

any_more : (name : List ℕ) (lines : List (List Lexeme)) (line : List Lexeme) (found here : Bool)
    → list_any (begins_with name) lines ≡ found → begins_with name line ≡ here
    → list_any (begins_with name) (lines ++ line ∷ []) ≡ (found || here)
any_more name lines line found here a b =
    list_any-append (begins_with name) lines (line ∷ []) ∙ ap (λ t. t || (begins_with name line || false)) a
    ∙ ap (λ t. found || (t || false)) b ∙ or_false found here
  where
    or_false : (s t : Bool) → (s || (t || false)) ≡ (s || t)
    or_false true t = refl
    or_false false true = refl
    or_false false false = refl

state_in_body : (lines : List (List Lexeme)) (line : List Lexeme) → is_begun lines ≡ true
    → state_of (lines ++ line ∷ [])
    ≡ states.Gates (circuit_given (header_in lines) (body_in lines ++ line ∷ []))
    (is_ended (body_in lines ++ line ∷ []))
state_in_body lines line begun =
    ap (λ t. state_by t (lines ++ line ∷ []) (header_in (lines ++ line ∷ [])) (body_in (lines ++ line ∷ [])))
    (any_more (codes ".begin") lines line true (begins_with (codes ".begin") line) begun refl)
    ∙ ap (λ h. states.Gates (circuit_given h (body_in (lines ++ line ∷ []))) (is_ended (body_in (lines ++ line ∷ []))))
    (before_found (codes ".begin") lines line begun)
    ∙ ap (λ b. states.Gates (circuit_given (header_in lines) b) (is_ended b))
    (after_found (codes ".begin") lines line begun)

state_at_begin : (lines : List (List Lexeme)) (line : List Lexeme) → is_begun lines ≡ false
    → begins_with (codes ".begin") line ≡ true
    → state_of (lines ++ line ∷ []) ≡ in_body (circuit_given lines [])
state_at_begin lines line begun here =
    ap (λ t. state_by t (lines ++ line ∷ []) (header_in (lines ++ line ∷ [])) (body_in (lines ++ line ∷ [])))
    (any_more (codes ".begin") lines line false true begun here)
    ∙ ap (λ h. states.Gates (circuit_given h (body_in (lines ++ line ∷ []))) (is_ended (body_in (lines ++ line ∷ []))))
    (before_here (codes ".begin") lines line begun here)
    ∙ ap (λ b. states.Gates (circuit_given lines b) (is_ended b)) (after_here (codes ".begin") lines line begun)

state_in_header : (lines : List (List Lexeme)) (line : List Lexeme) → is_begun lines ≡ false
    → begins_with (codes ".begin") line ≡ false
    → state_of (lines ++ line ∷ []) ≡ in_header (given_after lines line)
state_in_header lines line begun here =
    ap (λ t. state_by t (lines ++ line ∷ []) (header_in (lines ++ line ∷ [])) (body_in (lines ++ line ∷ [])))
    (any_more (codes ".begin") lines line false false begun here)
    ∙ ap in_header (given_more lines line)

-- ---- one line more

-- a line of the header
header_step : (before : List (List Lexeme)) (w : Lexeme) (ws : List Lexeme) → is_begun before ≡ false
    → header_line (given_in before) w ws ≡ step_of (header_fault before w ws) (state_of (before ++ (w ∷ ws) ∷ []))
unfolding header_line
header_step before w ws begun = elim (cases_Bool (is_bare w (codes ".begin"))) [
  | inl is ↦
      cond-true (is_bare w (codes ".begin")) _ _ is ∙ begin_step before
      ∙ ap (step_of (begin_fault before)) (sym (state_at_begin before (w ∷ ws) begun is))
      ∙ ap (λ f. step_of f (state_of (before ++ (w ∷ ws) ∷ []))) (sym (cond-true (is_bare w (codes ".begin"))
      (begin_fault before) (cond w.quoted (Some code.MISSING_DIRECTIVE) (named_fault before w.bytes ws)) is))
  | inr other ↦
      cond-false (is_bare w (codes ".begin")) _ _ other
      ∙ ap (λ r. r >>= λ next. Ok (in_header next)) (directive_step before w.bytes w.quoted w.closed ws)
      ∙ put (cond w.quoted (Some code.MISSING_DIRECTIVE) (named_fault before w.bytes ws)) (given_after before (w ∷ ws))
      ∙ ap (step_of (cond w.quoted (Some code.MISSING_DIRECTIVE) (named_fault before w.bytes ws)))
      (sym (state_in_header before (w ∷ ws) begun other))
      ∙ ap (λ f. step_of f (state_of (before ++ (w ∷ ws) ∷ []))) (sym (cond-false (is_bare w (codes ".begin"))
      (begin_fault before) (cond w.quoted (Some code.MISSING_DIRECTIVE) (named_fault before w.bytes ws)) other))
]
  where
    put : (f : Option ℕ) (h : Header) → (step_of f h >>= λ next. Ok (in_header next)) ≡ step_of f (in_header h)
    put None h = refl
    put (Some fault) h = refl

gates_more : (names : List (List ℕ)) (body : List (List Lexeme)) (line : List Lexeme)
    → gates_of_body names (body ++ line ∷ []) ≡ gates_of_body names body ++ gates_by names line
gates_more names body line =
    flat_map-append (gates_by names) body (line ∷ [])
    ∙ ap (λ gs. gates_of_body names body ++ gs) (append-nil (gates_by names line))

-- a gate more
gate_step : (c : Cascade) (r : Result Shape ℕ)
    → ((r >>= with_gate c) >>= λ next. Ok (in_body next))
    ≡ step_of (room_fault (length c.gates) r)
    (in_body (record c { gates = c.gates ++ option_to_list (result_ok r) }))
gate_step c (Err fault) = refl
gate_step c (Ok gate) = elim (ltb (length c.gates) MOST_GATES) as (λ t.
    (broken (not t) code.TOO_MANY_GATES (Ok (record c { gates = c.gates ++ gate ∷ [] })) >>= λ next. Ok (in_body next))
    ≡ step_of (cond t None (Some code.TOO_MANY_GATES)) (in_body (record c { gates = c.gates ++ gate ∷ [] }))) [
      | true ↦ refl
      | false ↦ refl
    ]

-- `.end` is no gate
no_gate : (names : List (List ℕ)) (w : Lexeme) (ws : List Lexeme) → is_bare w (codes ".end") ≡ true
    → gates_by names (w ∷ ws) ≡ []
no_gate names w ws is = at_end w.bytes w.quoted w.closed is
  where
    dotted : (bytes : List ℕ) → bytes_eq bytes (codes ".end") ≡ true → begins_with_dot bytes ≡ true
    dotted bytes is = ap begins_with_dot ((bytes_eq-Decides bytes (codes ".end")).0 is)

    at_end : (bytes : List ℕ) (quoted closed : Bool) → (not quoted && bytes_eq bytes (codes ".end")) ≡ true
        → gates_by names (record { bytes = bytes; quoted = quoted; closed = closed } ∷ ws) ≡ []
    at_end bytes true closed is = refl
    at_end bytes false closed is = rw (dotted bytes is) refl

-- a line of the body
body_step : (header body : List (List Lexeme)) (w : Lexeme) (ws : List Lexeme) → is_ended body ≡ false
    → body_line (circuit_given header body) w ws
    ≡ step_of (body_fault (names_so_far header) body w ws)
    (states.Gates (circuit_given header (body ++ (w ∷ ws) ∷ [])) (is_ended (body ++ (w ∷ ws) ∷ [])))
unfolding body_line
body_step header body w ws ended =
    let names : List (List ℕ) = names_so_far header in
    let c : Cascade = circuit_given header body in
    elim (cases_Bool (is_bare w (codes ".end"))) [
      | inl is ↦
          cond-true (is_bare w (codes ".end")) _ _ is
          ∙ ap (λ gs. Ok (after_end (record c { gates = gs })))
          (sym (gates_more names body (w ∷ ws) ∙ ap (λ gs. gates_of_body names body ++ gs) (no_gate names w ws is)
          ∙ append-nil (gates_of_body names body)))
          ∙ ap (λ t. Ok (states.Gates (circuit_given header (body ++ (w ∷ ws) ∷ [])) t))
          (sym (any_more (codes ".end") body (w ∷ ws) false true ended is))
          ∙ ap (λ f. step_of f
          (states.Gates (circuit_given header (body ++ (w ∷ ws) ∷ [])) (is_ended (body ++ (w ∷ ws) ∷ []))))
          (sym (cond-true (is_bare w (codes ".end")) None
          (room_fault (length (gates_of_body names body)) (gate_of names w ws)) is))
      | inr other ↦
          cond-false (is_bare w (codes ".end")) _ _ other
          ∙ gate_step c (gate_of names w ws)
          ∙ ap (λ gs. step_of (room_fault (length (gates_of_body names body)) (gate_of names w ws))
          (in_body (record c { gates = gs }))) (sym (gates_more names body (w ∷ ws)))
          ∙ ap (λ t. step_of (room_fault (length (gates_of_body names body)) (gate_of names w ws))
          (states.Gates (circuit_given header (body ++ (w ∷ ws) ∷ [])) t))
          (sym (any_more (codes ".end") body (w ∷ ws) false false ended other))
          ∙ ap (λ f. step_of f
          (states.Gates (circuit_given header (body ++ (w ∷ ws) ∷ [])) (is_ended (body ++ (w ∷ ws) ∷ []))))
          (sym (cond-false (is_bare w (codes ".end")) None
          (room_fault (length (gates_of_body names body)) (gate_of names w ws)) other))
    ]

-- a line that has a token, by the part in which it stands
part_step : (before : List (List Lexeme)) (w : Lexeme) (ws : List Lexeme)
    → line_in (state_of before) w ws ≡ step_of (part_fault before w ws) (state_of (before ++ (w ∷ ws) ∷ []))
part_step before w ws = elim (cases_Bool (is_begun before)) [
  | inl begun ↦
      ap (λ t. line_in (state_by t before (header_in before) (body_in before)) w ws) begun
      ∙ (elim (cases_Bool (is_ended (body_in before))) [
        | inl ended ↦
            ap (λ t. line_in (states.Gates (circuit_given (header_in before) (body_in before)) t) w ws) ended
            ∙ ap (λ f. step_of f (state_of (before ++ (w ∷ ws) ∷ []))) (sym (cond-true (is_ended (body_in before))
            (Some code.TEXT_AFTER_END) (body_fault (names_so_far (header_in before)) (body_in before) w ws) ended))
        | inr ended ↦
            ap (λ t. line_in (states.Gates (circuit_given (header_in before) (body_in before)) t) w ws) ended
            ∙ body_step (header_in before) (body_in before) w ws ended
            ∙ ap (step_of (body_fault (names_so_far (header_in before)) (body_in before) w ws))
            (sym (state_in_body before (w ∷ ws) begun))
            ∙ ap (λ f. step_of f (state_of (before ++ (w ∷ ws) ∷ []))) (sym (cond-false (is_ended (body_in before))
            (Some code.TEXT_AFTER_END) (body_fault (names_so_far (header_in before)) (body_in before) w ws) ended))
      ])
      ∙ ap (λ f. step_of f (state_of (before ++ (w ∷ ws) ∷ [])))
      (sym (cond-true (is_begun before) (cond (is_ended (body_in before)) (Some code.TEXT_AFTER_END)
      (body_fault (names_so_far (header_in before)) (body_in before) w ws)) (header_fault before w ws) begun))
  | inr begun ↦
      ap (λ t. line_in (state_by t before (header_in before) (body_in before)) w ws) begun
      ∙ header_step before w ws begun
      ∙ ap (λ f. step_of f (state_of (before ++ (w ∷ ws) ∷ [])))
      (sym (cond-false (is_begun before) (cond (is_ended (body_in before)) (Some code.TEXT_AFTER_END)
      (body_fault (names_so_far (header_in before)) (body_in before) w ws)) (header_fault before w ws) begun))
]

-- a line without tokens
skip_step : (before : List (List Lexeme)) → state_of before ≡ state_of (before ++ [] ∷ [])
skip_step before = elim (cases_Bool (is_begun before)) [
  | inl begun ↦
      let names : List (List ℕ) = names_so_far (header_in before) in
      ap (λ t. state_by t before (header_in before) (body_in before)) begun
      ∙ ap (λ gs. states.Gates (record (circuit_given (header_in before) (body_in before)) { gates = gs })
      (is_ended (body_in before)))
      (sym (gates_more names (body_in before) [] ∙ append-nil (gates_of_body names (body_in before))))
      ∙ ap (states.Gates (circuit_given (header_in before) (body_in before ++ [] ∷ [])))
      (sym (any_more (codes ".end") (body_in before) [] (is_ended (body_in before)) false refl refl
      ∙ none_more (is_ended (body_in before))))
      ∙ sym (state_in_body before [] begun)
  | inr begun ↦
      ap (λ t. state_by t before (header_in before) (body_in before)) begun
      ∙ ap in_header (given_same before false [])
      ∙ sym (state_in_header before [] begun refl)
]
  where
    none_more : (t : Bool) → (t || false) ≡ t
    none_more true = refl
    none_more false = refl

line_step : (before : List (List Lexeme)) (line : List Lexeme)
    → line_of (state_of before) line ≡ step_of (fault_of before line) (state_of (before ++ line ∷ []))
unfolding line_of
line_step before [] = ap Ok (skip_step before)
line_step before (w ∷ ws) =
    ap (λ r. broken (list_any is_unclosed (w ∷ ws)) code.UNCLOSED_QUOTE r) (part_step before w ws)
    ∙ (elim (list_any is_unclosed (w ∷ ws)) as (λ t. broken t code.UNCLOSED_QUOTE
    (step_of (part_fault before w ws) (state_of (before ++ (w ∷ ws) ∷ [])))
    ≡ step_of (cond t (Some code.UNCLOSED_QUOTE) (part_fault before w ws)) (state_of (before ++ (w ∷ ws) ∷ []))) [
      | true ↦ refl
      | false ↦ refl
    ])

-- ---- all lines

abbrev tokens : List (List ℕ) → List (List Lexeme)
tokens lines = map (λ line. tokens_of true [] line) lines

read_as : Option TextFault → State → Result State TextFault
read_as None state = Ok state
read_as (Some fault) state = Err fault

reads : (lines : List (List ℕ)) (before : List (List Lexeme))
    → lines_read line_rules (length before) (state_of before) lines
    ≡ read_as (first_fault fault_of before (tokens lines)) (state_of (before ++ tokens lines))
unfolding read_as
reads [] before = ap (λ ls. Ok (state_of ls)) (sym (append-nil before))
reads (line ∷ lines) before =
    let number : ℕ = length before + 1 in
    let words : List Lexeme = tokens_of true [] line in
    let count : length (before ++ words ∷ []) ≡ number = length_push before words in
    ap (λ step. on_line number step >>= λ next. lines_read line_rules number next lines) (line_step before words)
    ∙ (elim (fault_of before words) as (λ f. (on_line number (step_of f (state_of (before ++ words ∷ [])))
    >>= λ next. lines_read line_rules number next lines)
    ≡ read_as (option_or (option_map (λ code. record { line = number; code = code }) f)
    (first_fault fault_of (before ++ words ∷ []) (tokens lines))) (state_of (before ++ words ∷ tokens lines))) [
      | None ↦
          ap (λ k. lines_read line_rules k (state_of (before ++ words ∷ [])) lines) (sym count)
          ∙ reads lines (before ++ words ∷ [])
          ∙ ap (λ ls. read_as (first_fault fault_of (before ++ words ∷ []) (tokens lines)) (state_of ls))
          (append_assoc before (words ∷ []) (tokens lines))
      | Some code ↦ refl
    ])

-- the rules find the first fault
pub finds : (lines : List (List ℕ))
    → result_err (lines_read line_rules 0 (in_header no_directives) lines) ≡ fault_in lines
unfolding read_as
finds lines = ap result_err (reads lines []) ∙ fault_read (fault_in lines) (state_of (tokens lines))
  where
    fault_read : (f : Option TextFault) (state : State) → result_err (read_as f state) ≡ f
    fault_read None state = refl
    fault_read (Some fault) state = refl

-- ---- the end

end_step : (lines : List (List Lexeme)) → faulted faults.Text (end_in (state_of lines) (length lines)) ≡ all_of lines
end_step lines = elim (cases_Bool (is_begun lines)) [
  | inl begun ↦
      ap (λ t. faulted faults.Text (end_in (state_by t lines (header_in lines) (body_in lines)) (length lines))) begun
      ∙ (elim (is_ended (body_in lines)) as (λ t. faulted faults.Text
      (end_in (states.Gates (circuit_given (header_in lines) (body_in lines)) t) (length lines))
      ≡ cond t (Ok (circuit_given (header_in lines) (body_in lines)))
      (Err (faults.Text (record { line = length lines; code = code.NO_END })))) [
        | true ↦ refl
        | false ↦ refl
      ])
  | inr begun ↦
      ap (λ t. faulted faults.Text (end_in (state_by t lines (header_in lines) (body_in lines)) (length lines))) begun
      ∙ sym (ap (λ b. cond (is_ended b) (Ok (circuit_given (header_in lines) b))
      (Err (faults.Text (record { line = length lines; code = code.NO_END }))))
      (none_after (codes ".begin") lines begun))
]

pub denotes : (text : List ℕ) → object_of line_rules as_fault end_of text ≡ real_of text
unfolding object_of whole_of real_of read_as
denotes text =
    let lines : List (List Lexeme) = token_lines text in
    ap (λ all. faulted (text_as as_fault) (all >>= with_count (length (lines_of text))) >>= end_of)
    (reads (lines_of text) [])
    ∙ (elim (first_fault fault_of [] lines) as (λ f.
    (faulted (text_as as_fault) (read_as f (state_of lines) >>= with_count (length (lines_of text))) >>= end_of)
    ≡ unless_text faults.Text f (all_of lines)) [
      | None ↦
          ap (λ n. faulted faults.Text (end_in (state_of lines) n))
          (sym (length-map (lines_of text) (λ line. tokens_of true [] line))) ∙ end_step lines
      | Some fault ↦ refl
    ])
