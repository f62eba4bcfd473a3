-- What a text of a permutation denotes: a permutation with marks, or its first fault.
use Rattle.std.specs.Prelude.{ℕ, Bool, false, not, List, [], length, replicate, ◌==◌, Option, Some, None, Result, Ok, Err}
use Rattle.rv_gate.specs.declared.circuit.Mark.{Mark}
use Rattle.rv_gate.specs.declared.circuit.Mark.TheVariants.{Input}
use Rattle.rv_text.specs.Lines.{lines_of}
use Rattle.rv_text.specs.declared.fault.TextFault.{TextFault}
use Rattle.rv_reader.specs.Rules.{◌>>=◌, broken}
use Rattle.rv_reader.specs.FirstFault.{first_fault, unless_text}
use Rattle.rv_perm.specs.declared.code.TheConstants as code
use Rattle.rv_perm.specs.declared.fault.PermFault.{PermFault}
use Rattle.rv_perm.specs.declared.fault.PermFault.TheVariants as faults
use Rattle.rv_perm.specs.Perm.{lines_for, images_checked}
use Rattle.rv_perm.specs.Marked.{Marked}
use Rattle.rv_perm.specs.Given.{MarkRow, constants_in, garbage_in, numbers_in, fault_of}

-- the marks of so many lines: a row has one for each, and where there is no row, all are this one
abbrev pub marks_on : {M : Type 0} → ℕ → M → Option (MarkRow M) → Result (List M) PermFault
marks_on n mark None = Ok (replicate n mark)
marks_on n mark (Some row) =
    broken (not (length row.marks == n))
    (faults.Text (record { line = row.line; code = code.WRONG_MARK_ROW })) (Ok row.marks)

-- the permutation of so many lines: first the rows of marks, then the numbers
abbrev pub marked_on : Option ℕ → Option (MarkRow Mark) → Option (MarkRow Bool) → List ℕ → Result Marked PermFault
marked_on None constants garbage numbers = Err (faults.Length (length numbers))
marked_on (Some n) constants garbage numbers =
    marks_on n Input constants >>= λ constants.
    marks_on n false garbage >>= λ garbage.
    images_checked n numbers >>= λ table.
    Ok (record { table = table; constants = constants; garbage = garbage })

-- what lines without a fault denote: how many numbers there are comes before all other faults
abbrev pub end_of : List (List ℕ) → Result Marked PermFault
end_of lines =
    marked_on (lines_for (length (numbers_in lines))) (constants_in lines) (garbage_in lines) (numbers_in lines)

-- the first fault in lines
abbrev pub fault_in : List (List ℕ) → Option TextFault
fault_in lines = first_fault fault_of [] lines

-- the permutation that a text denotes, or its first fault
unfoldable pub permutation_of : List ℕ → Result Marked PermFault
permutation_of text = unless_text faults.Text (fault_in (lines_of text)) (end_of (lines_of text))
