-- What a line of the header makes of the directives so far.
use Rattle.std.specs.Prelude.{unwrap_or, ℕ, Bool, false, not, List, [], length, replicate, ◌==◌, ◌&&◌, if◌then◌else◌, is_some, Option, Some, Result, Ok, Err, codes}
use Rattle.std.specs.Str.{bytes_eq}
use Rattle.rv_text.specs.Bytes.{begins_with_dot}
use Rattle.rv_text.specs.Tokens.{Lexeme, joined}
use Rattle.rv_gate.specs.Circuit.{Cascade}
use Rattle.rv_gate.specs.declared.circuit.Mark.TheVariants.{Input}
use Rattle.rv_marks.specs.Row.{constant_of, garbage_of, row_of_marks}
use Rattle.rv_reader.specs.Rules.{◌>>=◌, broken, found_or}
use Rattle.rv_real.specs.declared.code.TheConstants as code
use Rattle.rv_real.specs.Header.{line_count, variable_names, labels_of, is_dropped, is_refused}
use Rattle.rv_real.specs.inside.Directives.{Header}

unfoldable pub numvars_of : Header → List Lexeme → Result Header ℕ
numvars_of h ws =
    broken (is_some h.numvars) code.DIRECTIVE_OUT_OF_PLACE
    (line_count ws >>= λ lines. Ok (record h { numvars = Some lines }))

-- how many lines there are, for a directive that stands once and after `.numvars`
abbrev pub lines_declared : Option ℕ → Bool → Result ℕ ℕ
lines_declared numvars is_given =
    found_or code.MISSING_DIRECTIVE numvars >>= λ lines.
    broken is_given code.DIRECTIVE_OUT_OF_PLACE (Ok lines)

-- one operand for each line
abbrev pub for_each : {A : Type 0} → ℕ → List Lexeme → Result A ℕ → Result A ℕ
for_each lines ws entries = broken (not (length ws == lines)) code.WRONG_LABEL_COUNT entries

abbrev pub names_for : ℕ → List Lexeme → Result (List (List ℕ)) ℕ
names_for lines ws = for_each lines ws (variable_names ws)

abbrev pub with_names : Header → ℕ → List Lexeme → Result Header ℕ
with_names h lines ws = names_for lines ws >>= λ names. Ok (record h { names = Some names })

unfoldable pub variables_of : Header → List Lexeme → Result Header ℕ
variables_of h ws = lines_declared h.numvars (is_some h.names) >>= λ lines. with_names h lines ws

abbrev pub labels_for : ℕ → List Lexeme → Result (List (List ℕ)) ℕ
labels_for lines ws = for_each lines ws (labels_of ws)

unfoldable pub inputs_of : Header → List Lexeme → Result Header ℕ
inputs_of h ws =
    lines_declared h.numvars (is_some h.input_labels) >>= λ lines.
    labels_for lines ws >>= λ labels.
    Ok (record h { input_labels = Some labels })

unfoldable pub outputs_of : Header → List Lexeme → Result Header ℕ
outputs_of h ws =
    lines_declared h.numvars (is_some h.output_labels) >>= λ lines.
    labels_for lines ws >>= λ labels.
    Ok (record h { output_labels = Some labels })

unfoldable pub constants_of : Header → List Lexeme → Result Header ℕ
constants_of h ws =
    lines_declared h.numvars (is_some h.constants) >>= λ lines.
    found_or code.WRONG_MARK_ROW (row_of_marks constant_of lines (joined ws)) >>= λ row.
    Ok (record h { constants = Some row })

unfoldable pub garbage_row_of : Header → List Lexeme → Result Header ℕ
garbage_row_of h ws =
    lines_declared h.numvars (is_some h.garbage) >>= λ lines.
    found_or code.WRONG_MARK_ROW (row_of_marks garbage_of lines (joined ws)) >>= λ row.
    Ok (record h { garbage = Some row })

-- the circuit without gates: labels that weren't given are the names, and marks that weren't given are `-`
abbrev pub without_gates : List (List ℕ) → Header → Cascade
without_gates names h =
    record {
      names = names;
      input_labels = unwrap_or h.input_labels names;
      output_labels = unwrap_or h.output_labels names;
      constants = unwrap_or h.constants (replicate (length names) Input);
      garbage = unwrap_or h.garbage (replicate (length names) false);
      gates = [];
    }

unfoldable pub begin_of : Header → Result Cascade ℕ
begin_of h =
    broken (not (is_some h.numvars && is_some h.names)) code.MISSING_DIRECTIVE
    (Ok (without_gates (unwrap_or h.names []) h))

-- a name that is no directive, or none that may stand there
abbrev pub refused_directive : List ℕ → Result Header ℕ
refused_directive name =
    if is_refused name then Err code.NOT_SUPPORTED
    else (if bytes_eq name (codes ".end") then Err code.DIRECTIVE_OUT_OF_PLACE
    else (if begins_with_dot name then Err code.UNKNOWN_DIRECTIVE
    else Err code.MISSING_DIRECTIVE))

unfoldable pub named_directive : Header → List ℕ → List Lexeme → Result Header ℕ
named_directive h name ws =
    if is_dropped name then Ok h
    else (if bytes_eq name (codes ".numvars") then numvars_of h ws
    else (if bytes_eq name (codes ".variables") then variables_of h ws
    else (if bytes_eq name (codes ".inputs") then inputs_of h ws
    else (if bytes_eq name (codes ".outputs") then outputs_of h ws
    else (if bytes_eq name (codes ".constants") then constants_of h ws
    else (if bytes_eq name (codes ".garbage") then garbage_row_of h ws
    else refused_directive name))))))

-- a line of the header but `.begin`, by its first token and its operands; a first token in quotes is no directive
abbrev pub directive_of : Header → Lexeme → List Lexeme → Result Header ℕ
directive_of h w ws = broken w.quoted code.MISSING_DIRECTIVE (named_directive h w.bytes ws)
