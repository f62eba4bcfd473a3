-- What a text in RevLib's `.real` format denotes, version 2.0: a circuit, or its first fault. A text has three parts:
-- the header, the body, and what follows it.
use Rattle.std.specs.Prelude.{unwrap_or, Bool, true, false, not, ℕ, List, [], ◌∷◌, length, map, replicate, if◌then◌else◌, codes, Option, Some, None, Result, Ok, Err}
use Rattle.std.specs.List.{list_any, before_first, after_first}
use Rattle.rv_text.specs.Lines.{lines_of}
use Rattle.rv_text.specs.declared.fault.TextFault.{TextFault}
use Rattle.rv_text.specs.Tokens.{Lexeme, tokens_of}
use Rattle.rv_reader.specs.FirstFault.{first_fault, unless_text}
use Rattle.rv_gate.specs.Circuit.{Cascade}
use Rattle.rv_gate.specs.declared.circuit.Mark.TheVariants.{Input}
use Rattle.rv_real.specs.declared.code.TheConstants as code
use Rattle.rv_real.specs.declared.fault.RealFault.{RealFault}
use Rattle.rv_real.specs.declared.fault.RealFault.TheVariants as faults
use Rattle.rv_real.specs.Rules.{is_bare}
use Rattle.rv_real.specs.Header.{names_in, input_labels_in, output_labels_in, constants_in, garbage_in, header_fault}
use Rattle.rv_real.specs.Body.{gates_of_body, body_fault}

-- the lines of a text, each by its tokens
abbrev pub token_lines : List ℕ → List (List Lexeme)
token_lines text = map (λ line. tokens_of true [] line) (lines_of text)

-- ---- the parts of a text

abbrev pub begins_with : List ℕ → List Lexeme → Bool
begins_with name [] = false
begins_with name (w ∷ ws) = is_bare w name

-- the header stands before the first `.begin`
abbrev pub header_in : List (List Lexeme) → List (List Lexeme)
header_in lines = before_first (begins_with (codes ".begin")) lines

abbrev pub is_begun : List (List Lexeme) → Bool
is_begun lines = list_any (begins_with (codes ".begin")) lines

-- the body stands after it, and ends with `.end`
abbrev pub body_in : List (List Lexeme) → List (List Lexeme)
body_in lines = after_first (begins_with (codes ".begin")) lines

abbrev pub is_ended : List (List Lexeme) → Bool
is_ended body = list_any (begins_with (codes ".end")) body

-- ---- the rules of a line, after the lines before it

abbrev pub names_so_far : List (List Lexeme) → List (List ℕ)
names_so_far header = unwrap_or (names_in header) []

-- by the part in which it stands; after `.end` no token may follow
abbrev pub part_fault : List (List Lexeme) → Lexeme → List Lexeme → Option ℕ
part_fault before w ws =
    if is_begun before
    then (if is_ended (body_in before) then Some code.TEXT_AFTER_END
    else body_fault (names_so_far (header_in before)) (body_in before) w ws)
    else header_fault before w ws

abbrev pub is_unclosed : Lexeme → Bool
is_unclosed w = not w.closed

-- the code of the first rule that a line breaks, where an unclosed quote is looked for first;
-- a line without tokens is skipped
abbrev pub fault_of : List (List Lexeme) → List Lexeme → Option ℕ
fault_of before [] = None
fault_of before (w ∷ ws) = if list_any is_unclosed (w ∷ ws) then Some code.UNCLOSED_QUOTE else part_fault before w ws

-- ---- all lines

-- the circuit of a header and a body: labels that weren't given are the names, and marks that weren't given are `-`
abbrev pub circuit_given : List (List Lexeme) → List (List Lexeme) → Cascade
circuit_given header body =
    let names = names_so_far header in
    record {
      names = names;
      input_labels = unwrap_or (input_labels_in header) names;
      output_labels = unwrap_or (output_labels_in header) names;
      constants = unwrap_or (constants_in header) (replicate (length names) Input);
      garbage = unwrap_or (garbage_in header) (replicate (length names) false);
      gates = gates_of_body names body;
    }

-- what lines without a fault denote
abbrev pub end_of : List (List Lexeme) → Result Cascade RealFault
end_of lines =
    if is_ended (body_in lines) then Ok (circuit_given (header_in lines) (body_in lines))
    else Err (faults.Text (record { line = length lines; code = code.NO_END }))

-- the first fault in lines
abbrev pub fault_in : List (List ℕ) → Option TextFault
fault_in lines = first_fault fault_of [] (map (λ line. tokens_of true [] line) lines)

-- the circuit that a text denotes, or its first fault
unfoldable pub real_of : List ℕ → Result Cascade RealFault
real_of text = unless_text faults.Text (fault_in (lines_of text)) (end_of (token_lines text))
