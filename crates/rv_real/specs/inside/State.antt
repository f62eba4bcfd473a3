-- What the lines of a text gave so far, line by line: in the header, in the body after these gates, or after `.end`.
use Rattle.std.specs.Prelude.{◌≡◌, ℕ, ◌+◌, Bool, true, false, List, [], ◌∷◌, length, map, if◌then◌else◌, codes, Result, Ok, Err, refl}
use Rattle.std.specs.List.{list_any}
use Rattle.std.proofs.Common.{ap, add-zero, arith, ◌∙◌, sym}
use Rattle.rv_text.specs.declared.fault.TextFault.{TextFault}
use Rattle.rv_text.specs.Lines.{lines_of}
use Rattle.rv_text.specs.Tokens.{Lexeme, tokens_of}
use Rattle.rv_reader.specs.declared.text_refusal.TextRefusal.{TextRefusal}
use Rattle.rv_reader.specs.declared.text_refusal.TextRefusal.TheVariants as refusals
use Rattle.rv_reader.specs.declared.whole.Whole.{Whole}
use Rattle.rv_reader.specs.Rules.{Rules, ◌>>=◌, broken, on_line, lines_read, with_count, whole_of}
use Rattle.rv_reader.specs.Feeding.{faulted, text_as, object_of}
use Rattle.rv_gate.specs.Circuit.{Cascade}
use Rattle.rv_real.specs.declared.code.TheConstants as code
use Rattle.rv_real.specs.declared.fault.RealFault.{RealFault}
use Rattle.rv_real.specs.declared.fault.RealFault.TheVariants as faults
use Rattle.rv_real.specs.declared.line.State.{State}
use Rattle.rv_real.specs.declared.line.State.TheVariants as states
use Rattle.rv_real.specs.inside.Directives.{Header, no_directives}
use Rattle.rv_real.specs.Rules.{is_bare}
use Rattle.rv_real.specs.inside.HeaderSteps.{directive_of, begin_of}
use Rattle.rv_real.specs.inside.BodySteps.{with_body_line}
use Rattle.rv_real.specs.Reading.{token_lines, is_unclosed}
use Rattle.rv_real.specs.inside.LineByLine.{ruled, no_end, rest_of, body_of, header_of}

abbrev pub in_header : Header → State
in_header h = states.Header h

abbrev pub in_body : Cascade → State
in_body c = states.Gates c false

abbrev pub after_end : Cascade → State
after_end c = states.Gates c true

abbrev pub is_in_header : State → Bool
is_in_header (states.Header h) = true
is_in_header (states.Gates c is_ended) = false

-- a line of the header
unfoldable pub header_line : Header → Lexeme → List Lexeme → Result State ℕ
header_line h w ws =
    if is_bare w (codes ".begin") then (begin_of h >>= λ c. Ok (in_body c))
    else (directive_of h w ws >>= λ next. Ok (in_header next))

-- a line of the body
unfoldable pub body_line : Cascade → Lexeme → List Lexeme → Result State ℕ
body_line c w ws =
    if is_bare w (codes ".end") then (Ok c >>= λ all. Ok (after_end all))
    else (with_body_line c w ws >>= λ next. Ok (in_body next))

-- a line that has a token
abbrev pub line_in : State → Lexeme → List Lexeme → Result State ℕ
line_in (states.Header h) w ws = header_line h w ws
line_in (states.Gates c false) w ws = body_line c w ws
line_in (states.Gates c true) w ws = Err code.TEXT_AFTER_END

-- a line: one without tokens is skipped
unfoldable pub line_of : State → List Lexeme → Result State ℕ
line_of state [] = Ok state
line_of state (w ∷ ws) = ruled (w ∷ ws) (line_in state w ws)

-- the text is read line by line
abbrev pub line_rules : Rules State
line_rules =
    record { start = in_header no_directives; line_of = λ state number line. line_of state (tokens_of true [] line) }

-- the end of a text of so many lines
abbrev pub end_in : State → ℕ → Result Cascade TextFault
end_in (states.Header h) lines = no_end lines
end_in (states.Gates c false) lines = no_end lines
end_in (states.Gates c true) lines = Ok c

abbrev pub end_of : Whole State → Result Cascade RealFault
end_of whole = faulted faults.Text (end_in whole.state whole.lines)

-- why a text was refused, before its end
abbrev pub as_fault : TextRefusal → RealFault
as_fault (refusals.Text fault) = faults.Text fault
as_fault refusals.Mem = faults.Mem

-- ---- line by line a text gives what all of its lines give

-- what the lines after so many others give
abbrev pub read_in : State → ℕ → List (List Lexeme) → Result Cascade TextFault
read_in (states.Header h) before lines = header_of h before lines
read_in (states.Gates c false) before lines = body_of c before lines
read_in (states.Gates c true) before lines = rest_of c before lines
