-- The exit status and the line of each fault.
use Rattle.std.specs.Prelude.{ℕ, ◌^◌, List, ◌++◌, map, codes, decimal}
use Rattle.rv_faults.specs.declared.fault.Fault.{Fault}
use Rattle.rv_faults.specs.declared.fault.Fault.TheVariants.{CannotRead, CannotWrite, Refused, TooLong, OutOfMemory}
use Rattle.rv_faults.specs.declared.fault.Refusal.{Refusal}
use Rattle.rv_faults.specs.declared.fault.Refusal.TheVariants as refusal
use Rattle.rv_faults.specs.declared.fault.Unmade.{Unmade}
use Rattle.rv_faults.specs.declared.fault.Unmade.TheVariants as unmade
use Rattle.rv_faults.specs.declared.fault.TextFormat.{TextFormat}
use Rattle.rv_faults.specs.declared.fault.TextFormat.TheVariants.{Real, Permutation, Pla, Qasm, Blif, Words}
use Rattle.rv_faults.specs.declared.fault.InputFault.{InputFault}
use Rattle.rv_faults.specs.declared.fault.InputFault.TheVariants.{Text, WrongLength, OutOfRange, Repeated, Conflict, NotToffoli, NotIdentity, NotClassical, WideTemplate, LongTemplate, TooManyLines, TooManyEnds, TooManyGates, MoreGates, TooManyOps, LargeCoefficient, Undecided}
use Rattle.rv_faults.specs.declared.fault.Measure.{Measure}
use Rattle.rv_faults.specs.declared.fault.Measure.TheVariants.{Nodes, Terms, Steps, PathBits}
use Rattle.rv_text.specs.declared.lines.TheConstants.{MOST_BYTES}
use Rattle.rv_perm.specs.declared.perm.TheConstants.{MOST_PERM_LINES}
use Rattle.rv_real.specs.Code as real
use Rattle.rv_perm.specs.Code as perm
use Rattle.rv_pla.specs.Code as pla
use Rattle.rv_qasm.specs.Code as qasm
use Rattle.rv_blif.specs.Code as blif
use Rattle.rv_gate.specs.Word.{word_of}
use Rattle.rv_text.specs.Bytes.{bit_byte}

-- ---- what a command refuses, and why nothing is made of the inputs

abbrev pub unmade_by : Refusal → Unmade
unmade_by (refusal.Refused input why) = unmade.Refused input why
unmade_by refusal.OutOfMemory = unmade.OutOfMemory

abbrev pub fault_of : Unmade → Fault
fault_of (unmade.CannotRead input) = CannotRead input
fault_of (unmade.Refused input why) = Refused input why
fault_of (unmade.TooLong input) = TooLong input
fault_of unmade.OutOfMemory = OutOfMemory

-- ---- the exit status: 3 for a text, 4 for a call, 5 for a limit, 6 for memory

abbrev pub status_of_input : InputFault → ℕ
status_of_input (Text format line code) = 3
status_of_input (WrongLength count) = 3
status_of_input (OutOfRange place) = 3
status_of_input (Repeated first second) = 3
status_of_input (Conflict on off inputs word) = 3
status_of_input (NotToffoli place) = 3
status_of_input (NotIdentity lines word image) = 3
status_of_input (NotClassical place) = 3
status_of_input (WideTemplate lines most) = 5
status_of_input (LongTemplate gates most) = 5
status_of_input (TooManyLines count most) = 5
status_of_input (TooManyGates count most) = 5
status_of_input (TooManyEnds count most) = 5
status_of_input (MoreGates most) = 5
status_of_input (TooManyOps count most) = 5
status_of_input (LargeCoefficient lines word place) = 5
status_of_input (Undecided count what) = 5

abbrev pub status_of : Fault → ℕ
status_of (CannotRead input) = 4
status_of CannotWrite = 4
status_of (Refused input why) = status_of_input why
status_of (TooLong input) = 5
status_of OutOfMemory = 6

-- ---- the line

abbrev pub message_line : List ℕ → List ℕ
message_line reason = codes "rev: " ++ reason ++ codes "\n"

-- what is said of an input that is too long
abbrev pub over_limit : List ℕ
over_limit = codes ": longer than " ++ (decimal MOST_BYTES ++ codes " bytes")

-- what is said of a line of an input
abbrev pub at_line : ℕ → List ℕ → List ℕ
at_line line text = codes ":" ++ decimal line ++ codes ": " ++ text

-- a word of so many bits, by its number
abbrev pub bits_of : ℕ → ℕ → List ℕ
bits_of inputs word = map bit_byte (word_of inputs word)

-- which rule of a format is broken
abbrev pub rule_of : TextFormat → ℕ → List ℕ
rule_of Real code = real.text_of_code code
rule_of Permutation code = perm.text_of_code code
rule_of Pla code = pla.text_of_code code
rule_of Qasm code = qasm.text_of_code code
rule_of Blif code = blif.text_of_code code
rule_of Words code = codes "wrong word"

-- a count, and what it may be at most
abbrev pub counted_to : ℕ → List ℕ → ℕ → List ℕ
counted_to count what most = codes ": " ++ (decimal count ++ (what ++ decimal most))

-- a count of a template, and what it may be at most
abbrev pub template_of : ℕ → List ℕ → ℕ → List ℕ
template_of count what most = codes ": template of " ++ (decimal count ++ (what ++ decimal most))

-- what a comparison that isn't decided counts
abbrev pub measured : Measure → List ℕ
measured Nodes = codes " nodes"
measured Terms = codes " terms"
measured Steps = codes " steps"
measured PathBits = codes " path bits"

-- what is said of an input after its name
abbrev pub said_of : InputFault → List ℕ
said_of (Text format line code) = at_line line (rule_of format code)
said_of (WrongLength count) = counted_to count (codes " numbers are no power of two from 2 to ") (2 ^ MOST_PERM_LINES)
said_of (OutOfRange place) = codes ": image out of range at place " ++ decimal place
said_of (Repeated first second) =
    codes ": image repeated at places " ++ (decimal first ++ (codes " and " ++ decimal second))
said_of (Conflict on off inputs word) =
    codes ": lines "
    ++ (decimal on ++ (codes " and " ++ (decimal off ++ (codes " conflict at word " ++ bits_of inputs word))))
said_of (NotToffoli place) = codes ": gate " ++ (decimal place ++ codes " is no Toffoli gate")
said_of (NotIdentity lines word image) =
    codes ": no identity: word " ++ (bits_of lines word ++ (codes " gives " ++ bits_of lines image))
said_of (NotClassical place) = codes ": operation " ++ (decimal place ++ codes " is not classical")
said_of (WideTemplate lines most) = template_of lines (codes " lines is wider than ") most
said_of (LongTemplate gates most) = template_of gates (codes " gates is longer than ") most
said_of (TooManyLines count most) = counted_to count (codes " lines are more than ") most
said_of (TooManyEnds count most) = counted_to count (codes " lines of inputs and outputs are more than ") most
said_of (TooManyGates count most) = counted_to count (codes " gates are more than ") most
said_of (MoreGates most) = codes ": more than " ++ (decimal most ++ codes " gates")
said_of (TooManyOps count most) = counted_to count (codes " operations are more than ") most
said_of (LargeCoefficient lines word place) =
    codes ": coefficient too large at operation " ++ (decimal place ++ (codes " for word " ++ bits_of lines word))
said_of (Undecided count what) = codes ": undecided with " ++ (decimal count ++ measured what)

-- the input that a fault is of, if it is of one
abbrev pub input_of : Fault → ℕ
input_of (CannotRead input) = input
input_of CannotWrite = 0
input_of (Refused input why) = input
input_of (TooLong input) = input
input_of OutOfMemory = 0

-- what a fault says, where the input that it is of has this name
abbrev pub reason : List ℕ → Fault → List ℕ
reason name (CannotRead input) = codes "cannot read " ++ name
reason name CannotWrite = codes "cannot write"
reason name (Refused input why) = name ++ said_of why
reason name (TooLong input) = name ++ over_limit
reason name OutOfMemory = codes "out of memory"
