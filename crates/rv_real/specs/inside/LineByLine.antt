-- A text read line by line, from the directives or the circuit so far.
use Rattle.std.specs.Prelude.{ℕ, ◌+◌, List, [], ◌∷◌, if◌then◌else◌, codes, Result, Ok, Err}
use Rattle.std.specs.List.{list_any}
use Rattle.rv_text.specs.declared.fault.TextFault.{TextFault}
use Rattle.rv_text.specs.Tokens.{Lexeme}
use Rattle.rv_reader.specs.Rules.{◌>>=◌, broken, on_line}
use Rattle.rv_gate.specs.Circuit.{Cascade}
use Rattle.rv_real.specs.declared.code.TheConstants as code
use Rattle.rv_real.specs.Rules.{is_bare}
use Rattle.rv_real.specs.Reading.{is_unclosed}
use Rattle.rv_real.specs.inside.Directives.{Header}
use Rattle.rv_real.specs.inside.HeaderSteps.{directive_of, begin_of}
use Rattle.rv_real.specs.inside.BodySteps.{with_body_line}

-- an unclosed quote is looked for first, and then the rules of a line
abbrev pub ruled : {A : Type 0} → List Lexeme → Result A ℕ → Result A ℕ
ruled ws rules = broken (list_any is_unclosed ws) code.UNCLOSED_QUOTE rules

-- a text of so many lines that ends before its `.end`
abbrev pub no_end : ℕ → Result Cascade TextFault
no_end lines = Err (record { line = lines; code = code.NO_END })

-- ---- the three parts, each after so many lines of the text; a line without tokens is skipped

-- after `.end` no token may follow
abbrev pub rest_of : Cascade → ℕ → List (List Lexeme) → Result Cascade TextFault
rest_of c before [] = Ok c
rest_of c before ([] ∷ lines) = rest_of c (before + 1) lines
rest_of c before ((w ∷ ws) ∷ lines) = on_line (before + 1) (ruled (w ∷ ws) (Err code.TEXT_AFTER_END))

-- one gate a line, until `.end`
abbrev pub body_of : Cascade → ℕ → List (List Lexeme) → Result Cascade TextFault
body_of c before [] = no_end before
body_of c before ([] ∷ lines) = body_of c (before + 1) lines
body_of c before ((w ∷ ws) ∷ lines) =
    if is_bare w (codes ".end")
    then (on_line (before + 1) (ruled (w ∷ ws) (Ok c)) >>= λ all. rest_of all (before + 1) lines)
    else (on_line (before + 1) (ruled (w ∷ ws) (with_body_line c w ws)) >>= λ next. body_of next (before + 1) lines)

-- one directive a line, until `.begin`
abbrev pub header_of : Header → ℕ → List (List Lexeme) → Result Cascade TextFault
header_of h before [] = no_end before
header_of h before ([] ∷ lines) = header_of h (before + 1) lines
header_of h before ((w ∷ ws) ∷ lines) =
    if is_bare w (codes ".begin")
    then (on_line (before + 1) (ruled (w ∷ ws) (begin_of h)) >>= λ c. body_of c (before + 1) lines)
    else (on_line (before + 1) (ruled (w ∷ ws) (directive_of h w ws)) >>= λ next. header_of next (before + 1) lines)
