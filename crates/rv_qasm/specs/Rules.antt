-- What a statement adds to a program, or the code of the first rule that it breaks.
use Rattle.std.specs.Prelude.{ℕ, ◌+◌, ◌^◌, min, bit_or, nat_lt, Bool, true, false, not, ◌&&◌, ◌||◌, ◌==◌, List, [], ◌∷◌, ◌++◌, length, map, codes, bytes_eq, if◌then◌else◌, Result, Ok, Err}
use Rattle.std.specs.List.{fold, list_any, list_all, range_with_len, before_first, after_first}
use Rattle.rv_gate.specs.declared.word.TheConstants.{MOST_LINES}
use Rattle.rv_net.specs.declared.net.TheConstants.{MOST_OPS}
use Rattle.rv_gate.specs.Word.{has}
use Rattle.rv_qasm.specs.declared.program.TheConstants.{MOST_MEASUREMENTS}
use Rattle.rv_net.specs.declared.op.Op.{Op}
use Rattle.rv_reader.specs.Rules.{◌>>=◌, broken, found_or}
use Rattle.rv_qasm.specs.Tokens.{is_number, is_open_string, is_string}
use Rattle.rv_qasm.specs.Registers.{Register, RegisterOperand, QubitRange, size_of_all, is_among, declaration_of, is_token, register_operand, operands_of, qubits_of, all_qubits_of, classical_bits}
use Rattle.rv_qasm.specs.Gates.{gate_size, op_on, begins_unsupported}
use Rattle.rv_qasm.specs.declared.code.TheConstants as code

-- what statements gave so far
pub record SoFar : Type 0 where
  -- the first of them was `OPENQASM 2.0`
  pub has_version : Bool
  pub quantum : List Register
  pub classical : List Register
  -- the set of the qubits that were measured
  pub measured : ℕ
  -- how many there were, each counted each time, up to the greatest count
  pub measurements : ℕ
  pub ops : List Op

-- before any statement
abbrev pub nothing_so_far : SoFar
nothing_so_far = record { has_version = false; quantum = []; classical = []; measured = 0; measurements = 0; ops = [] }

-- ---- `OPENQASM 2.0`, `include` and declarations

abbrev pub version_read : SoFar → List (List ℕ) → Result SoFar ℕ
version_read so_far (name ∷ number ∷ []) =
    broken (not (bytes_eq name (codes "OPENQASM") && is_number number)) code.NO_HEADER
    (broken (not (bytes_eq number (codes "2.0"))) code.NOT_SUPPORTED
    (Ok (record so_far { has_version = true })))
version_read so_far _ = Err code.NO_HEADER

abbrev pub include_read : SoFar → List (List ℕ) → Result SoFar ℕ
include_read so_far (file ∷ []) =
    broken (not (is_string file)) code.WRONG_SYNTAX
    (broken (not (bytes_eq file (codes "\"qelib1.inc\""))) code.NOT_SUPPORTED
    (Ok so_far))
include_read so_far _ = Err code.WRONG_SYNTAX

abbrev pub qubit_count : SoFar → ℕ
qubit_count so_far = size_of_all so_far.quantum

-- quantum and classical registers share their names
abbrev pub is_declared : SoFar → List ℕ → Bool
is_declared so_far name = is_among name so_far.quantum || is_among name so_far.classical

-- a register of a name that was not there
abbrev pub new_register : SoFar → List (List ℕ) → Result Register ℕ
new_register so_far tokens =
    found_or code.WRONG_SYNTAX (declaration_of tokens) >>= λ register.
    broken (is_declared so_far register.name) code.REPEATED_REGISTER (Ok register)

abbrev pub with_quantum : SoFar → Register → Result SoFar ℕ
with_quantum so_far register =
    broken (nat_lt MOST_LINES (qubit_count so_far + register.size)) code.TOO_MANY_QUBITS
    (Ok (record so_far { quantum = so_far.quantum ++ register ∷ [] }))

abbrev pub qreg_read : SoFar → List (List ℕ) → Result SoFar ℕ
qreg_read so_far tokens = new_register so_far tokens >>= with_quantum so_far

abbrev pub creg_read : SoFar → List (List ℕ) → Result SoFar ℕ
creg_read so_far tokens =
    new_register so_far tokens >>= λ register. Ok (record so_far { classical = so_far.classical ++ register ∷ [] })

-- ---- operands that are looked at and dropped

abbrev pub looked_at : SoFar → List RegisterOperand → Result SoFar ℕ
looked_at so_far operands = all_qubits_of so_far.quantum operands >>= λ ranges. Ok so_far

abbrev pub barrier_read : SoFar → List (List ℕ) → Result SoFar ℕ
barrier_read so_far [] = Err code.WRONG_SYNTAX
barrier_read so_far (token ∷ tokens) = found_or code.WRONG_SYNTAX (operands_of (token ∷ tokens)) >>= looked_at so_far

-- the operands of a gate with so many
abbrev pub gate_operands : ℕ → List (List ℕ) → Result (List RegisterOperand) ℕ
gate_operands size tokens =
    found_or code.WRONG_SYNTAX (operands_of tokens) >>= λ operands.
    broken (not (length operands == size)) code.WRONG_OPERAND_COUNT (Ok operands)

abbrev pub id_read : SoFar → List (List ℕ) → Result SoFar ℕ
id_read so_far tokens = gate_operands 1 tokens >>= looked_at so_far

-- ---- `measure Q -> C`

abbrev pub with_qubit : ℕ → ℕ → ℕ
with_qubit set qubit = bit_or set (2 ^ qubit)

abbrev pub with_measured : SoFar → QubitRange → SoFar
with_measured so_far qubits = record so_far {
  measured = fold with_qubit so_far.measured (range_with_len qubits.first qubits.count);
  measurements = min (so_far.measurements + qubits.count) MOST_MEASUREMENTS;
}

abbrev pub measured_read : SoFar → RegisterOperand → RegisterOperand → Result SoFar ℕ
measured_read so_far from to =
    qubits_of so_far.quantum from >>= λ qubits.
    classical_bits so_far.classical to >>= λ bits.
    broken (not (qubits.count == bits)) code.REGISTER_SIZES_DIFFER (Ok (with_measured so_far qubits))

abbrev pub measure_read : SoFar → List (List ℕ) → Result SoFar ℕ
measure_read so_far tokens =
    found_or code.WRONG_SYNTAX (register_operand (before_first (is_token (codes "->")) tokens)) >>= λ from.
    found_or code.WRONG_SYNTAX (register_operand (after_first (is_token (codes "->")) tokens)) >>= λ to.
    measured_read so_far from to

-- ---- a gate on qubits and on whole registers

abbrev pub is_measured : SoFar → ℕ → Bool
is_measured so_far qubit = has so_far.measured qubit

abbrev pub has_twice : List ℕ → Bool
has_twice [] = false
has_twice (q ∷ qs) = list_any (λ other. other == q) qs || has_twice qs

abbrev pub with_ops : SoFar → List Op → Result SoFar ℕ
with_ops so_far ops =
    broken (not (nat_lt (length so_far.ops) MOST_OPS)) code.TOO_MANY_OPS
    (Ok (record so_far { ops = so_far.ops ++ ops }))

-- one operation
abbrev pub op_read : List ℕ → SoFar → List ℕ → Result SoFar ℕ
op_read name so_far qubits =
    broken (has_twice qubits) code.REPEATED_OPERAND
    (broken (list_any (is_measured so_far) qubits) code.GATE_AFTER_MEASUREMENT
    (with_ops so_far (op_on name qubits)))

abbrev pub ops_read : List ℕ → SoFar → List (List ℕ) → Result SoFar ℕ
ops_read name so_far [] = Ok so_far
ops_read name so_far (qubits ∷ others) = op_read name so_far qubits >>= λ next. ops_read name next others

-- the size of the first whole register, or 1 if each operand is one qubit
abbrev pub repeats : List QubitRange → ℕ
repeats [] = 1
repeats (range ∷ others) = if range.is_whole then range.count else repeats others

abbrev pub agrees_with : ℕ → QubitRange → Bool
agrees_with count range = not range.is_whole || range.count == count

abbrev pub sizes_agree : List QubitRange → Bool
sizes_agree operands = list_all (agrees_with (repeats operands)) operands

-- the j-th qubit of a whole register, and a single qubit again
abbrev pub qubit_at : ℕ → QubitRange → ℕ
qubit_at j range = if range.is_whole then range.first + j else range.first

abbrev pub qubits_at : List QubitRange → ℕ → List ℕ
qubits_at operands j = map (qubit_at j) operands

-- an operation for each place of the whole registers
abbrev pub each_read : List ℕ → SoFar → List QubitRange → Result SoFar ℕ
each_read name so_far ranges = ops_read name so_far (map (qubits_at ranges) (range_with_len 0 (repeats ranges)))

abbrev pub gate_read : SoFar → List ℕ → List (List ℕ) → Result SoFar ℕ
gate_read so_far name tokens =
    found_or code.UNKNOWN_GATE (gate_size name) >>= λ size.
    gate_operands size tokens >>= λ operands.
    all_qubits_of so_far.quantum operands >>= λ ranges.
    broken (not (sizes_agree ranges)) code.REGISTER_SIZES_DIFFER
    (each_read name so_far ranges)

-- ---- any statement

-- after the first one
abbrev pub body_read : SoFar → List (List ℕ) → Result SoFar ℕ
body_read so_far [] = Err code.WRONG_SYNTAX
body_read so_far (name ∷ tokens) =
    if begins_unsupported name then Err code.NOT_SUPPORTED
    else (if bytes_eq name (codes "include") then include_read so_far tokens
    else (if bytes_eq name (codes "qreg") then qreg_read so_far tokens
    else (if bytes_eq name (codes "creg") then creg_read so_far tokens
    else (if bytes_eq name (codes "barrier") then barrier_read so_far tokens
    else (if bytes_eq name (codes "id") then id_read so_far tokens
    else (if bytes_eq name (codes "measure") then measure_read so_far tokens
    else gate_read so_far name tokens))))))

unfoldable pub statement_read : SoFar → List (List ℕ) → Result SoFar ℕ
statement_read so_far tokens =
    broken (list_any is_open_string tokens) code.WRONG_SYNTAX
    (if so_far.has_version then body_read so_far tokens else version_read so_far tokens)

-- the code of a statement without its `;`
abbrev pub unended_code : List (List ℕ) → ℕ
unended_code [] = code.UNENDED_STATEMENT
unended_code (name ∷ tokens) =
    if list_any is_open_string (name ∷ tokens) then code.WRONG_SYNTAX
    else (if begins_unsupported name then code.NOT_SUPPORTED
    else code.UNENDED_STATEMENT)
