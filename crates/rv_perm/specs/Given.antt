-- What lines of a text give, and the first rule that the next line breaks.
use Rattle.std.specs.Prelude.{ℕ, ◌+◌, Bool, false, List, [], ◌∷◌, ◌||◌, length, if◌then◌else◌, nat_lt, is_some, Option, Some, None, codes}
use Rattle.std.specs.List.{flat_map, list_all}
use Rattle.std.specs.Option.{option_map, option_or}
use Rattle.std.specs.Str.{bytes_eq}
use Rattle.rv_gate.specs.declared.circuit.Mark.{Mark}
use Rattle.rv_text.specs.Decimal.{is_decimal}
use Rattle.rv_text.specs.Tokens.{Lexeme, tokens_of, joined}
use Rattle.rv_marks.specs.Row.{marks_of, constant_of, garbage_of}
use Rattle.rv_perm.specs.declared.code.TheConstants as code
use Rattle.rv_perm.specs.Line.{marks_after, separators, numbers_of}
use Rattle.rv_text.specs.Bytes.{begins_with_dot}

-- ---- what lines give

-- a row of marks, and the number of its line, counted from 1
pub record MarkRow (M : Type 0) : Type 0 where
  pub marks : List M
  pub line : ℕ

-- the row of marks after a name, on the line with this number
abbrev pub row_in : {M : Type 0} → List ℕ → (ℕ → Option M) → ℕ → List Lexeme → Option (MarkRow M)
row_in name mark_of number words =
    option_map (λ marks. record { marks = marks; line = number }) (marks_after name (marks_of mark_of) words)

-- the first such row on lines, before which stand so many others
abbrev pub first_row : {M : Type 0} → List ℕ → (ℕ → Option M) → ℕ → List (List ℕ) → Option (MarkRow M)
first_row name mark_of before [] = None
first_row name mark_of before (line ∷ lines) =
    option_or (row_in name mark_of (before + 1) (tokens_of false [] line)) (first_row name mark_of (before + 1) lines)

abbrev pub constants_in : List (List ℕ) → Option (MarkRow Mark)
constants_in lines = first_row (codes ".constants") constant_of 0 lines

abbrev pub garbage_in : List (List ℕ) → Option (MarkRow Bool)
garbage_in lines = first_row (codes ".garbage") garbage_of 0 lines

abbrev pub numbers_in : List (List ℕ) → List ℕ
numbers_in lines = flat_map numbers_of lines

-- ---- the rules of a line, after the lines before it

-- a directive stands once and before every number, and its row has marks alone
abbrev pub row_fault : {M : Type 0} → Bool → Option (List M) → Option ℕ
row_fault is_late marks =
    if is_late then Some code.DIRECTIVE_OUT_OF_PLACE else (if is_some marks then None else Some code.WRONG_MARK_ROW)

-- numbers stand before the directive, or a row of its kind
abbrev pub is_late : {M : Type 0} → List (List ℕ) → Option (MarkRow M) → Bool
is_late before row = is_some row || nat_lt 0 (length (numbers_in before))

-- a directive, by its name and its operands
abbrev pub directive_fault : List (List ℕ) → List ℕ → List Lexeme → Option ℕ
directive_fault before name words =
    if bytes_eq name (codes ".constants")
    then row_fault (is_late before (constants_in before)) (marks_of constant_of (joined words))
    else (if bytes_eq name (codes ".garbage")
    then row_fault (is_late before (garbage_in before)) (marks_of garbage_of (joined words))
    else Some code.UNKNOWN_DIRECTIVE)

abbrev pub words_fault : List Lexeme → Option ℕ
words_fault words = if list_all (λ word. is_decimal word.bytes) words then None else Some code.NOT_A_NUMBER

-- the code of the first rule that a line breaks, by its tokens; a line without tokens is skipped
abbrev pub fault_by : List (List ℕ) → List ℕ → List Lexeme → Option ℕ
fault_by before line [] = None
fault_by before line (word ∷ words) =
    if begins_with_dot word.bytes then directive_fault before word.bytes words
    else words_fault (tokens_of false separators line)

abbrev pub fault_of : List (List ℕ) → List ℕ → Option ℕ
fault_of before line = fault_by before line (tokens_of false [] line)
