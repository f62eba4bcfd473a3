-- What the text of a PLA denotes: a PLA, or its first fault.
use Rattle.std.specs.Prelude.{ℕ, List, [], length, map, Option, Some, None, Result, Err}
use Rattle.std.specs.List.{before_first}
use Rattle.std.specs.Option.{unwrap_or}
use Rattle.rv_text.specs.Lines.{lines_of}
use Rattle.rv_text.specs.declared.fault.TextFault.{TextFault}
use Rattle.rv_text.specs.Tokens.{Lexeme}
use Rattle.rv_pla.specs.declared.code.TheConstants as code
use Rattle.rv_pla.specs.declared.kind.Kind.{Kind}
use Rattle.rv_pla.specs.declared.kind.Kind.TheVariants.{Fd}
use Rattle.rv_pla.specs.declared.fault.PlaFault.{PlaFault}
use Rattle.rv_pla.specs.declared.fault.PlaFault.TheVariants as faults
use Rattle.rv_pla.specs.Pla.{TwoLevel, conflict_of, Term}
use Rattle.rv_reader.specs.FirstFault.{first_fault, unless_fault, unless_text}
use Rattle.rv_pla.specs.Line.{words_of}
use Rattle.rv_pla.specs.Given.{inputs_in, outputs_in, kind_in, terms_in, fault_of, is_last}

-- the lines that are read: those before the end
abbrev pub read_lines : List (List Lexeme) → List (List Lexeme)
read_lines lines = before_first is_last lines

-- the PLA without a conflict, or its first one
abbrev pub checked_pla : TwoLevel → Result TwoLevel PlaFault
checked_pla pla = unless_fault pla (conflict_of pla)

-- where no type was given, it is fd
abbrev pub pla_with : Option ℕ → Option ℕ → ℕ → Option Kind → List Term → Result TwoLevel PlaFault
pla_with None outputs lines kind terms = Err (faults.Text (record { line = lines; code = code.MISSING_DIRECTIVE }))
pla_with (Some i) None lines kind terms = Err (faults.Text (record { line = lines; code = code.MISSING_DIRECTIVE }))
pla_with (Some i) (Some o) lines kind terms =
    checked_pla (record { inputs = i; outputs = o; kind = unwrap_or kind Fd; terms = terms })

-- what lines without a fault denote, in a text of so many
abbrev pub end_of : ℕ → List (List Lexeme) → Result TwoLevel PlaFault
end_of count lines = pla_with (inputs_in lines) (outputs_in lines) count (kind_in lines) (terms_in lines)

-- the first fault in lines
abbrev pub fault_in : List (List ℕ) → Option TextFault
fault_in lines = first_fault fault_of [] (read_lines (map words_of lines))

-- the PLA that a text denotes, or its first fault
unfoldable pub pla_of : List ℕ → Result TwoLevel PlaFault
pla_of text =
    let lines = map words_of (lines_of text) in
    unless_text faults.Text (fault_in (lines_of text)) (end_of (length lines) (read_lines lines))
