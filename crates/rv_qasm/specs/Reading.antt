-- What an OpenQASM 2.0 text denotes: a program, or its first fault.
use Rattle.std.specs.Prelude.{codes, ℕ, not, List, [], ◌∷◌, length, ◌==◌, Result, Ok, Err}
use Rattle.rv_text.specs.Lines.{lines_of}
use Rattle.rv_text.specs.declared.fault.TextFault.{TextFault}
use Rattle.rv_reader.specs.Rules.{◌>>=◌, broken, on_line}
use Rattle.rv_reader.specs.Feeding.{faulted}
use Rattle.rv_net.specs.Op.{Network}
use Rattle.rv_qasm.specs.Statements.{Statement, statements_of, unended_of}
use Rattle.rv_qasm.specs.Registers.{Register}
use Rattle.rv_qasm.specs.Rules.{SoFar, nothing_so_far, qubit_count, statement_read, unended_code}
use Rattle.rv_qasm.specs.declared.code.TheConstants as code
use Rattle.rv_qasm.specs.declared.fault.QasmFault.{QasmFault}
use Rattle.rv_qasm.specs.declared.fault.QasmFault.TheVariants as faults

-- a network, the quantum registers in the order of their declaration, and how many qubits were measured
pub record Listing : Type 0 where
  pub net : Network
  pub registers : List Register
  pub measurements : ℕ

-- what statements give after others, or the first fault
abbrev pub statements_read : SoFar → List Statement → Result SoFar TextFault
statements_read so_far [] = Ok so_far
statements_read so_far (statement ∷ statements) =
    on_line statement.line (statement_read so_far statement.tokens) >>= λ next. statements_read next statements

-- no statement may lack its `;`
abbrev pub all_ended : List Statement → SoFar → Result SoFar TextFault
all_ended [] so_far = Ok so_far
all_ended (statement ∷ _) so_far = Err (record { line = statement.line; code = unended_code statement.tokens })

abbrev pub listing_of : SoFar → Listing
listing_of so_far = record {
  net = record { lines = qubit_count so_far; ops = so_far.ops };
  registers = so_far.quantum;
  measurements = so_far.measurements;
}

-- at the end of a text with so many lines
abbrev pub at_end : ℕ → SoFar → Result Listing TextFault
at_end lines so_far =
    broken (not so_far.has_version) (record { line = lines; code = code.NO_HEADER })
    (broken (qubit_count so_far == 0) (record { line = lines; code = code.NO_QUANTUM_REGISTER })
    (Ok (listing_of so_far)))

-- what the statements of a text give that `;` ends, or the first fault in them
abbrev pub ended_statements_read : List ℕ → Result SoFar TextFault
ended_statements_read text = statements_read nothing_so_far (statements_of text)

-- what a text denotes
unfoldable pub qasm_of : List ℕ → Result Listing QasmFault
qasm_of text =
    faulted faults.Text
    (ended_statements_read text >>= λ so_far. all_ended (unended_of text) so_far >>= at_end (length (lines_of text)))

-- a network, its lines the qubits of one register q, without measurements
abbrev pub in_register_q : Network → Listing
in_register_q net =
    record { net = net; registers = record { name = codes "q"; size = net.lines } ∷ []; measurements = 0 }
