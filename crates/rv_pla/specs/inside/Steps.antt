-- What a line, and the end of a text, make of what a reader keeps.
use Rattle.std.specs.Prelude.{ℕ, ◌+◌, true, not, List, [], ◌∷◌, ◌++◌, length, ◌==◌, ◌||◌, if◌then◌else◌, nat_lt, is_some, Option, Some, None, Result, Ok, Err, codes}
use Rattle.std.specs.Str.{bytes_eq}
use Rattle.rv_text.specs.Tokens.{Lexeme, joined}
use Rattle.rv_reader.specs.Rules.{Rules, ◌>>=◌, broken}
use Rattle.rv_reader.specs.declared.text_refusal.TextRefusal.{TextRefusal}
use Rattle.rv_reader.specs.declared.text_refusal.TextRefusal.TheVariants as refusals
use Rattle.rv_reader.specs.declared.whole.Whole.{Whole}
use Rattle.rv_pla.specs.declared.cube.TheConstants.{MOST_INPUTS, MOST_OUTPUTS}
use Rattle.rv_pla.specs.declared.code.TheConstants as code
use Rattle.rv_pla.specs.declared.pla.TheConstants.{MOST_TERMS}
use Rattle.rv_pla.specs.declared.fault.PlaFault.{PlaFault}
use Rattle.rv_pla.specs.declared.fault.PlaFault.TheVariants as faults
use Rattle.rv_pla.specs.Pla.{TwoLevel}
use Rattle.rv_pla.specs.Line.{words_of, size_of, kind_of, is_dropped, is_end, is_unsupported}
use Rattle.rv_text.specs.Bytes.{begins_with_dot}
use Rattle.rv_pla.specs.Row.{is_row, term_of}
use Rattle.rv_pla.specs.Reading.{pla_with}
use Rattle.rv_pla.specs.inside.State.{Given, nothing_given}

-- a directive that stands once, and before every term
abbrev pub given_once : {A : Type 0} → Given → Option A → Result Given ℕ → Result Given ℕ
given_once given so_far next = broken (is_some so_far || nat_lt 0 (length given.terms)) code.DIRECTIVE_OUT_OF_PLACE next

abbrev pub inputs_given : Given → List Lexeme → Result Given ℕ
inputs_given given words =
    given_once given given.inputs (size_of MOST_INPUTS words >>= λ n. Ok (record given { inputs = Some n }))

abbrev pub outputs_given : Given → List Lexeme → Result Given ℕ
outputs_given given words =
    given_once given given.outputs (size_of MOST_OUTPUTS words >>= λ n. Ok (record given { outputs = Some n }))

abbrev pub kind_given : Given → List Lexeme → Result Given ℕ
kind_given given words = given_once given given.kind (kind_of words >>= λ kind. Ok (record given { kind = Some kind }))

-- by its name and its operands
unfoldable pub directive_of : Given → List ℕ → List Lexeme → Result Given ℕ
directive_of given name words =
    if bytes_eq name (codes ".i") then inputs_given given words
    else (if bytes_eq name (codes ".o") then outputs_given given words
    else (if bytes_eq name (codes ".type") then kind_given given words
    else (if is_dropped name then Ok given
    else (if is_end name then Ok (record given { is_ended = true })
    else (if is_unsupported name then Err code.NOT_SUPPORTED
    else Err code.UNKNOWN_DIRECTIVE)))))

abbrev pub term_given : Given → ℕ → ℕ → ℕ → List ℕ → Result Given ℕ
term_given given inputs outputs number row =
    broken (not (length row == inputs + outputs)) code.WRONG_TERM_LENGTH
    (broken (not (is_row inputs row)) code.WRONG_CHARACTER
    (broken (not (nat_lt (length given.terms) MOST_TERMS)) code.TOO_MANY_TERMS
    (Ok (record given { terms = given.terms ++ term_of inputs number row ∷ [] }))))

-- a term stands after `.i` and `.o`
abbrev pub term_sized : Option ℕ → Option ℕ → Given → ℕ → List ℕ → Result Given ℕ
term_sized None outputs given number row = Err code.MISSING_DIRECTIVE
term_sized (Some i) None given number row = Err code.MISSING_DIRECTIVE
term_sized (Some i) (Some o) given number row = term_given given i o number row

-- a line without tokens is skipped
abbrev pub line_by : Given → ℕ → List Lexeme → Result Given ℕ
line_by given number [] = Ok given
line_by given number (word ∷ words) =
    if begins_with_dot word.bytes then directive_of given word.bytes words
    else term_sized given.inputs given.outputs given number (joined (word ∷ words))

unfoldable pub line_of : Given → ℕ → List ℕ → Result Given ℕ
line_of given number line = if given.is_ended then Ok given else line_by given number (words_of line)

-- the text is read line by line
abbrev pub line_rules : Rules Given
line_rules = record { start = nothing_given; line_of = line_of }

abbrev pub end_given : Whole Given → Result TwoLevel PlaFault
end_given whole = pla_with whole.state.inputs whole.state.outputs whole.lines whole.state.kind whole.state.terms

-- why a text was refused, before its end
abbrev pub as_fault : TextRefusal → PlaFault
as_fault (refusals.Text fault) = faults.Text fault
as_fault refusals.Mem = faults.Mem
