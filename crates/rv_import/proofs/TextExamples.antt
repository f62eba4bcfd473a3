-- Worked examples of texts, which the checker computes.
use Rattle.std.proofs.Common.{◌≡◌, ℕ, List, [], ◌∷◌, ◌++◌, Result, Ok, Err, codes, refl}
use Rattle.std.specs.List.{flat_map}
use Rattle.rv_net.specs.declared.op.Op.{Op}
use Rattle.rv_net.specs.declared.op.Op.TheVariants.{H, Tdg, Cx}
use Rattle.rv_qasm.specs.Tokens.{qasm_tokens}
use Rattle.rv_qasm.specs.Tokens.{tokens_after as on_lines}
use Rattle.rv_angles.specs.Decimal.{padded}
use Rattle.rv_import.specs.Calls.{call_ops}
use Rattle.rv_import.specs.Lexer.{tokens_of}
use Rattle.rv_import.specs.Reading.{parts_read, read, SoFar}
use Rattle.rv_import.specs.Statement.{angles_from}

abbrev ops_of : Result SoFar ℕ → Result (List Op) ℕ
ops_of (Ok s) = Ok (flat_map call_ops s.calls)
ops_of (Err number) = Err number

header : List ℕ
header = codes "OPENQASM 2.0;\ninclude \"qelib1.inc\";\nqreg q[2];\n"

gates : ops_of (read (header ++ codes "h q[0]; // first\ncx q[0],q[1];\np(-pi/4) q[1];\ncreg c[2];\nmeasure q -> c;\n")) ≡ Ok (H 0 ∷ Cx 0 1 ∷ Tdg 1 ∷ [])
unfolding tokens_of qasm_tokens on_lines parts_read angles_from padded header
gates = refl

-- the fifth statement
after_measurement : ops_of (read (header ++ codes "measure q -> c;x q[0];")) ≡ Err 5
unfolding tokens_of qasm_tokens on_lines parts_read header
after_measurement = refl

unknown : ops_of (read (header ++ codes "reset q[0];")) ≡ Err 4
unfolding tokens_of qasm_tokens on_lines parts_read header
unknown = refl

unended : ops_of (read (header ++ codes "h q[0]")) ≡ Err 4
unfolding tokens_of qasm_tokens on_lines parts_read header
unended = refl

no_version : ops_of (read (codes "qreg q[2];")) ≡ Err 1
unfolding tokens_of qasm_tokens on_lines parts_read
no_version = refl

no_register : ops_of (read (codes "OPENQASM 2.0;")) ≡ Err 2
unfolding tokens_of qasm_tokens on_lines parts_read
no_register = refl

second_register : ops_of (read (header ++ codes "qreg r[2]; cx q[1],r[0];")) ≡ Ok (Cx 1 2 ∷ [])
unfolding tokens_of qasm_tokens on_lines parts_read header
second_register = refl

same_name : ops_of (read (header ++ codes "qreg q[1];")) ≡ Err 4
unfolding tokens_of qasm_tokens on_lines parts_read header
same_name = refl

too_many : ops_of (read (header ++ codes "qreg r[63];")) ≡ Err 4
unfolding tokens_of qasm_tokens on_lines parts_read header
too_many = refl

-- a gate of one qubit on two, a qubit twice, and a gate without an exact form
two_qubits : ops_of (read (header ++ codes "sx q[0],q[1];")) ≡ Err 4
unfolding tokens_of qasm_tokens on_lines parts_read header
two_qubits = refl

twice : ops_of (read (header ++ codes "cx q[0],q[0];")) ≡ Err 4
unfolding tokens_of qasm_tokens on_lines parts_read header
twice = refl

no_form : ops_of (read (header ++ codes "cp(pi/4) q[0],q[1];")) ≡ Err 4
unfolding tokens_of qasm_tokens on_lines parts_read angles_from padded header
no_form = refl
