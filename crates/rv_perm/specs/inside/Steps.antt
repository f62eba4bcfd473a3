-- What a line, and the end of a text, make of what a reader keeps.
use Rattle.std.specs.Prelude.{ℕ, Bool, false, not, List, [], ◌∷◌, length, replicate, ◌==◌, ◌||◌, if◌then◌else◌, nat_lt, is_some, Option, Some, None, Result, Ok, Err, codes}
use Rattle.std.specs.Option.{option_map}
use Rattle.std.specs.Str.{bytes_eq}
use Rattle.rv_gate.specs.declared.circuit.Mark.{Mark}
use Rattle.rv_gate.specs.declared.circuit.Mark.TheVariants.{Input}
use Rattle.rv_text.specs.Decimal.{is_decimal, decimal_value}
use Rattle.rv_text.specs.Tokens.{Lexeme, tokens_of, joined}
use Rattle.rv_marks.specs.Row.{marks_of, constant_of, garbage_of}
use Rattle.rv_reader.specs.Rules.{Rules, ◌>>=◌, broken, found_or}
use Rattle.rv_reader.specs.declared.text_refusal.TextRefusal.{TextRefusal}
use Rattle.rv_reader.specs.declared.text_refusal.TextRefusal.TheVariants as refusals
use Rattle.rv_reader.specs.declared.whole.Whole.{Whole}
use Rattle.rv_perm.specs.declared.code.TheConstants as code
use Rattle.rv_perm.specs.declared.fault.PermFault.{PermFault}
use Rattle.rv_perm.specs.declared.fault.PermFault.TheVariants as faults
use Rattle.rv_perm.specs.Perm.{Table, lines_for, images_checked}
use Rattle.rv_perm.specs.Marked.{Marked}
use Rattle.rv_perm.specs.Given.{MarkRow}
use Rattle.rv_perm.specs.Line.{separators}
use Rattle.rv_text.specs.Bytes.{begins_with_dot}
use Rattle.rv_perm.specs.inside.State.{Given, nothing_given, with_number}

abbrev pub row_given : {M : Type 0} → (ℕ → Option M) → ℕ → List ℕ → Option (MarkRow M)
row_given mark_of number bytes = option_map (λ marks. record { marks = marks; line = number }) (marks_of mark_of bytes)

abbrev pub constants_given : Given → ℕ → List ℕ → Result Given ℕ
constants_given given number bytes =
    broken (is_some given.constants || nat_lt 0 given.count) code.DIRECTIVE_OUT_OF_PLACE
    (found_or code.WRONG_MARK_ROW (row_given constant_of number bytes)
    >>= λ row. Ok (record given { constants = Some row }))

abbrev pub garbage_given : Given → ℕ → List ℕ → Result Given ℕ
garbage_given given number bytes =
    broken (is_some given.garbage || nat_lt 0 given.count) code.DIRECTIVE_OUT_OF_PLACE
    (found_or code.WRONG_MARK_ROW (row_given garbage_of number bytes)
    >>= λ row. Ok (record given { garbage = Some row }))

unfoldable pub directive_given : Given → ℕ → List ℕ → List Lexeme → Result Given ℕ
directive_given given number name words =
    if bytes_eq name (codes ".constants") then constants_given given number (joined words)
    else (if bytes_eq name (codes ".garbage") then garbage_given given number (joined words)
    else Err code.UNKNOWN_DIRECTIVE)

abbrev pub numbers_given : Given → List Lexeme → Result Given ℕ
numbers_given given [] = Ok given
numbers_given given (word ∷ words) =
    broken (not (is_decimal word.bytes)) code.NOT_A_NUMBER
    (numbers_given (with_number given (decimal_value word.bytes)) words)

abbrev pub line_by : Given → ℕ → List ℕ → List Lexeme → Result Given ℕ
line_by given number line [] = Ok given
line_by given number line (word ∷ words) =
    if begins_with_dot word.bytes then directive_given given number word.bytes words
    else numbers_given given (tokens_of false separators line)

unfoldable pub line_given : Given → ℕ → List ℕ → Result Given ℕ
line_given given number line = line_by given number line (tokens_of false [] line)

-- the text is read line by line
abbrev pub line_rules : Rules Given
line_rules = record { start = nothing_given; line_of = line_given }

-- a row that was given has one mark for each of so many lines
abbrev pub row_checked : {M : Type 0} → ℕ → Option (MarkRow M) → Result (Unit {0}) PermFault
row_checked n None = Ok tt
row_checked n (Some row) =
    broken (not (length row.marks == n)) (faults.Text (record { line = row.line; code = code.WRONG_MARK_ROW })) (Ok tt)

-- the marks of a row, and all the same where there is none
abbrev pub marks_or : {M : Type 0} → ℕ → M → Option (MarkRow M) → List M
marks_or n mark None = replicate n mark
marks_or n mark (Some row) = row.marks

abbrev pub with_marks : Table → Option (MarkRow Mark) → Option (MarkRow Bool) → Marked
with_marks table constants garbage =
    record { table = table; constants = marks_or table.lines Input constants; garbage = marks_or table.lines false garbage }

abbrev pub end_on : Option ℕ → Given → Result Marked PermFault
end_on None given = Err (faults.Length given.count)
end_on (Some n) given =
    row_checked n given.constants >>= λ _.
    row_checked n given.garbage >>= λ _.
    images_checked n given.numbers >>= λ table.
    Ok (with_marks table given.constants given.garbage)

abbrev pub end_given : Whole Given → Result Marked PermFault
end_given whole = end_on (lines_for whole.state.count) whole.state

-- why a text was refused, before its end
abbrev pub as_fault : TextRefusal → PermFault
as_fault (refusals.Text fault) = faults.Text fault
as_fault refusals.Mem = faults.Mem
