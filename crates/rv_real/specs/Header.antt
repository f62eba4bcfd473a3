-- The header: what its lines give, and the rules of each directive after them,
-- in the order in which they are looked at.
use Rattle.std.specs.Prelude.{ℕ, Bool, not, List, [], ◌∷◌, ◌++◌, length, ◌==◌, ◌||◌, ◌&&◌, if◌then◌else◌, nat_lt, is_some, position, Option, Some, None, Result, Ok, Err, codes}
use Rattle.std.specs.List.{list_any}
use Rattle.std.specs.Result.{result_err, result_ok}
use Rattle.std.specs.Str.{bytes_eq}
use Rattle.rv_text.specs.Bytes.{begins_with_dot}
use Rattle.rv_text.specs.Decimal.{decimal_value, is_count}
use Rattle.rv_text.specs.Tokens.{Lexeme, joined}
use Rattle.rv_gate.specs.Names.{is_name}
use Rattle.rv_gate.specs.declared.word.TheConstants.{MOST_LINES}
use Rattle.rv_gate.specs.declared.circuit.Mark.{Mark}
use Rattle.rv_marks.specs.Row.{constant_of, garbage_of, marks_of, row_of_marks}
use Rattle.rv_reader.specs.Given.{given_by, first_given}
use Rattle.rv_reader.specs.Rules.{broken}
use Rattle.rv_real.specs.declared.code.TheConstants as code
use Rattle.rv_real.specs.Rules.{in_order, is_bare}

-- ---- .numvars

-- one operand
abbrev pub line_count : List Lexeme → Result ℕ ℕ
line_count [] = Err code.WRONG_NUMBER
line_count (w ∷ []) =
    broken (not (is_count w.bytes)) code.WRONG_NUMBER
    (broken (nat_lt MOST_LINES (decimal_value w.bytes)) code.TOO_MANY_LINES
    (Ok (decimal_value w.bytes)))
line_count (w ∷ v ∷ ws) = Err code.WRONG_NUMBER

-- ---- .variables

-- the line that has a name
abbrev pub line_of_name : List (List ℕ) → List ℕ → Option ℕ
line_of_name names name = position (bytes_eq name) names

-- the names so far, with the name of an operand
abbrev pub with_name : List (List ℕ) → Lexeme → Result (List (List ℕ)) ℕ
with_name names w =
    broken (w.quoted || not (is_name w.bytes)) code.WRONG_NAME
    (broken (is_some (line_of_name names w.bytes)) code.REPEATED_LABEL
    (Ok (names ++ w.bytes ∷ [])))

abbrev pub variable_names : List Lexeme → Result (List (List ℕ)) ℕ
variable_names ws = in_order with_name [] ws

-- ---- .inputs and .outputs

abbrev pub holds_quote : List ℕ → Bool
holds_quote bytes = list_any (λ c. c == 34) bytes

-- the labels so far, with the label of an operand
abbrev pub with_label : List (List ℕ) → Lexeme → Result (List (List ℕ)) ℕ
with_label labels w =
    broken (not w.quoted && holds_quote w.bytes) code.WRONG_NAME
    (Ok (labels ++ w.bytes ∷ []))

abbrev pub labels_of : List Lexeme → Result (List (List ℕ)) ℕ
labels_of ws = in_order with_label [] ws

-- ---- what the lines of a header give

-- what a line of the directive with this name gives by its operands
abbrev pub on_directive : {A : Type 0} → List ℕ → (List Lexeme → Option A) → List Lexeme → Option A
on_directive name value_of = given_by (λ w. is_bare w name) value_of

abbrev pub numvars_in : List (List Lexeme) → Option ℕ
numvars_in header = first_given (on_directive (codes ".numvars") (λ ws. result_ok (line_count ws))) header

abbrev pub names_in : List (List Lexeme) → Option (List (List ℕ))
names_in header = first_given (on_directive (codes ".variables") (λ ws. result_ok (variable_names ws))) header

abbrev pub input_labels_in : List (List Lexeme) → Option (List (List ℕ))
input_labels_in header = first_given (on_directive (codes ".inputs") (λ ws. result_ok (labels_of ws))) header

abbrev pub output_labels_in : List (List Lexeme) → Option (List (List ℕ))
output_labels_in header = first_given (on_directive (codes ".outputs") (λ ws. result_ok (labels_of ws))) header

abbrev pub constants_in : List (List Lexeme) → Option (List Mark)
constants_in header = first_given (on_directive (codes ".constants") (λ ws. marks_of constant_of (joined ws))) header

abbrev pub garbage_in : List (List Lexeme) → Option (List Bool)
garbage_in header = first_given (on_directive (codes ".garbage") (λ ws. marks_of garbage_of (joined ws))) header

-- ---- the rules of a line of the header, after the lines before it

-- how many lines there are stands once
abbrev pub numvars_fault : Option ℕ → List Lexeme → Option ℕ
numvars_fault numvars ws = if is_some numvars then Some code.DIRECTIVE_OUT_OF_PLACE else result_err (line_count ws)

-- a directive that has an entry for each line stands once, and after `.numvars`; then its operands count
abbrev pub entries_fault : {A : Type 0} → Option ℕ → Option A → (ℕ → Option ℕ) → Option ℕ
entries_fault None so_far fault = Some code.MISSING_DIRECTIVE
entries_fault (Some lines) so_far fault = if is_some so_far then Some code.DIRECTIVE_OUT_OF_PLACE else fault lines

-- one operand for each line
abbrev pub each_fault : {A : Type 0} → Result A ℕ → List Lexeme → ℕ → Option ℕ
each_fault entries ws lines = if length ws == lines then result_err entries else Some code.WRONG_LABEL_COUNT

-- one mark for each line
abbrev pub row_fault : {M : Type 0} → (ℕ → Option M) → List Lexeme → ℕ → Option ℕ
row_fault mark_of ws lines = if is_some (row_of_marks mark_of lines (joined ws)) then None else Some code.WRONG_MARK_ROW

-- `.begin` stands after `.numvars` and `.variables`
abbrev pub begin_fault : List (List Lexeme) → Option ℕ
begin_fault before =
    if is_some (numvars_in before) && is_some (names_in before) then None else Some code.MISSING_DIRECTIVE

-- directives that are dropped with the rest of their line
abbrev pub is_dropped : List ℕ → Bool
is_dropped name =
    bytes_eq name (codes ".version") || bytes_eq name (codes ".inputbus") || bytes_eq name (codes ".outputbus")
    || bytes_eq name (codes ".state")

-- directives that are refused
abbrev pub is_refused : List ℕ → Bool
is_refused name = bytes_eq name (codes ".module") || bytes_eq name (codes ".define")

-- a directive but `.begin`, by its name and its operands
unfoldable pub named_fault : List (List Lexeme) → List ℕ → List Lexeme → Option ℕ
named_fault before name ws =
    if is_dropped name then None
    else (if bytes_eq name (codes ".numvars") then numvars_fault (numvars_in before) ws
    else (if bytes_eq name (codes ".variables")
    then entries_fault (numvars_in before) (names_in before) (each_fault (variable_names ws) ws)
    else (if bytes_eq name (codes ".inputs")
    then entries_fault (numvars_in before) (input_labels_in before) (each_fault (labels_of ws) ws)
    else (if bytes_eq name (codes ".outputs")
    then entries_fault (numvars_in before) (output_labels_in before) (each_fault (labels_of ws) ws)
    else (if bytes_eq name (codes ".constants")
    then entries_fault (numvars_in before) (constants_in before) (row_fault constant_of ws)
    else (if bytes_eq name (codes ".garbage")
    then entries_fault (numvars_in before) (garbage_in before) (row_fault garbage_of ws)
    else (if is_refused name then Some code.NOT_SUPPORTED
    else (if bytes_eq name (codes ".end") then Some code.DIRECTIVE_OUT_OF_PLACE
    else (if begins_with_dot name then Some code.UNKNOWN_DIRECTIVE
    else Some code.MISSING_DIRECTIVE)))))))))

-- a line of the header, by its first token and its operands; a first token in quotes is no directive
abbrev pub header_fault : List (List Lexeme) → Lexeme → List Lexeme → Option ℕ
header_fault before w ws =
    if is_bare w (codes ".begin") then begin_fault before
    else (if w.quoted then Some code.MISSING_DIRECTIVE else named_fault before w.bytes ws)
