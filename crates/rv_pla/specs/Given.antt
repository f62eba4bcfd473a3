-- What lines of a text give, and the first rule that the next line breaks. A line is the list of its words.
use Rattle.std.specs.Prelude.{ℕ, ◌+◌, Bool, false, not, List, [], ◌∷◌, ◌++◌, length, ◌==◌, ◌||◌, if◌then◌else◌, nat_lt, is_some, Option, Some, None, Result, codes}
use Rattle.std.specs.Option.{unwrap_or}
use Rattle.std.specs.Result.{result_err, result_ok}
use Rattle.std.specs.Str.{bytes_eq}
use Rattle.rv_text.specs.Tokens.{Lexeme, joined}
use Rattle.rv_reader.specs.Given.{given_by, first_given}
use Rattle.rv_pla.specs.declared.cube.TheConstants.{MOST_INPUTS, MOST_OUTPUTS}
use Rattle.rv_pla.specs.declared.code.TheConstants as code
use Rattle.rv_pla.specs.declared.kind.Kind.{Kind}
use Rattle.rv_pla.specs.declared.pla.TheConstants.{MOST_TERMS}
use Rattle.rv_pla.specs.Pla.{Term}
use Rattle.rv_pla.specs.Line.{size_of, kind_of, is_dropped, is_end, is_unsupported}
use Rattle.rv_text.specs.Bytes.{begins_with_dot}
use Rattle.rv_pla.specs.Row.{is_row, term_of}

-- ---- what lines give

-- what a line of the directive with this name gives by its operands
abbrev pub on_directive : {A : Type 0} → List ℕ → (List Lexeme → Result A ℕ) → List Lexeme → Option A
on_directive name value_of = given_by (λ word. bytes_eq word.bytes name) (λ words. result_ok (value_of words))

abbrev pub inputs_in : List (List Lexeme) → Option ℕ
inputs_in lines = first_given (on_directive (codes ".i") (size_of MOST_INPUTS)) lines

abbrev pub outputs_in : List (List Lexeme) → Option ℕ
outputs_in lines = first_given (on_directive (codes ".o") (size_of MOST_OUTPUTS)) lines

abbrev pub kind_in : List (List Lexeme) → Option Kind
kind_in lines = first_given (on_directive (codes ".type") kind_of) lines

-- the term of so many inputs on the line with a number, which is no directive
abbrev pub term_on : ℕ → ℕ → List Lexeme → List Term
term_on inputs number [] = []
term_on inputs number (word ∷ words) =
    if begins_with_dot word.bytes then [] else term_of inputs number (joined (word ∷ words)) ∷ []

-- the terms on lines, before which stand so many others
abbrev pub terms_from : ℕ → ℕ → List (List Lexeme) → List Term
terms_from inputs before [] = []
terms_from inputs before (line ∷ lines) = term_on inputs (before + 1) line ++ terms_from inputs (before + 1) lines

abbrev pub terms_in : List (List Lexeme) → List Term
terms_in lines = terms_from (unwrap_or (inputs_in lines) 0) 0 lines

-- ---- the rules of a line, after the lines before it

-- a directive stands once, and before every term; then its operands count
abbrev pub once : {A : Type 0} → List (List Lexeme) → Option A → Result A ℕ → Option ℕ
once before so_far value =
    if is_some so_far || nat_lt 0 (length (terms_in before)) then Some code.DIRECTIVE_OUT_OF_PLACE else result_err value

unfoldable pub directive_fault : List (List Lexeme) → List ℕ → List Lexeme → Option ℕ
directive_fault before name words =
    if bytes_eq name (codes ".i") then once before (inputs_in before) (size_of MOST_INPUTS words)
    else (if bytes_eq name (codes ".o") then once before (outputs_in before) (size_of MOST_OUTPUTS words)
    else (if bytes_eq name (codes ".type") then once before (kind_in before) (kind_of words)
    else (if is_dropped name then None
    else (if is_end name then None
    else (if is_unsupported name then Some code.NOT_SUPPORTED
    else Some code.UNKNOWN_DIRECTIVE)))))

-- a term stands after `.i` and `.o`
abbrev pub term_fault : List (List Lexeme) → Option ℕ → Option ℕ → List ℕ → Option ℕ
term_fault before None outputs row = Some code.MISSING_DIRECTIVE
term_fault before (Some i) None row = Some code.MISSING_DIRECTIVE
term_fault before (Some i) (Some o) row =
    if not (length row == i + o) then Some code.WRONG_TERM_LENGTH
    else (if not (is_row i row) then Some code.WRONG_CHARACTER
    else (if not (nat_lt (length (terms_in before)) MOST_TERMS) then Some code.TOO_MANY_TERMS
    else None))

-- the code of the first rule that a line breaks; a line without words is skipped
abbrev pub fault_of : List (List Lexeme) → List Lexeme → Option ℕ
fault_of before [] = None
fault_of before (word ∷ words) =
    if begins_with_dot word.bytes then directive_fault before word.bytes words
    else term_fault before (inputs_in before) (outputs_in before) (joined (word ∷ words))

-- the rest of the text is dropped after this line
abbrev pub is_last : List Lexeme → Bool
is_last [] = false
is_last (word ∷ words) = is_end word.bytes
