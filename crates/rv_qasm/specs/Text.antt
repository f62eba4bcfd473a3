-- The text of a network in OpenQASM 2.0: its lines are the qubits of one register q, and each operation is a statement.
use Rattle.std.specs.Prelude.{ℕ, List, [], ◌∷◌, ◌++◌, codes, decimal, flat_map}
use Rattle.rv_net.specs.Op.{Network}
use Rattle.rv_net.specs.declared.op.Op.{Op}
use Rattle.rv_net.specs.declared.op.Op.TheVariants.{X, Y, Z, H, S, Sdg, T, Tdg, Cx, Cz, Ccx, Swap, Cswap}

-- the qubit of a line
abbrev pub qubit : ℕ → List ℕ
qubit line = codes "q[" ++ (decimal line ++ codes "]")

-- the qubits of lines, with commas between them
abbrev pub qubits : List ℕ → List ℕ
qubits [] = []
qubits (a ∷ []) = qubit a
qubits (a ∷ b ∷ more) = qubit a ++ (codes "," ++ qubits (b ∷ more))

-- a gate on the qubits of lines
abbrev pub gate_on : List ℕ → List ℕ → List ℕ
gate_on gate lines = gate ++ (codes " " ++ qubits lines)

-- an operation by its gate of qelib1.inc, whose controls come first
abbrev pub op_text : Op → List ℕ
op_text (X q) = gate_on (codes "x") (q ∷ [])
op_text (Y q) = gate_on (codes "y") (q ∷ [])
op_text (Z q) = gate_on (codes "z") (q ∷ [])
op_text (H q) = gate_on (codes "h") (q ∷ [])
op_text (S q) = gate_on (codes "s") (q ∷ [])
op_text (Sdg q) = gate_on (codes "sdg") (q ∷ [])
op_text (T q) = gate_on (codes "t") (q ∷ [])
op_text (Tdg q) = gate_on (codes "tdg") (q ∷ [])
op_text (Cx a b) = gate_on (codes "cx") (a ∷ b ∷ [])
op_text (Cz a b) = gate_on (codes "cz") (a ∷ b ∷ [])
op_text (Ccx a b c) = gate_on (codes "ccx") (a ∷ b ∷ c ∷ [])
op_text (Swap a b) = gate_on (codes "swap") (a ∷ b ∷ [])
op_text (Cswap c a b) = gate_on (codes "cswap") (c ∷ a ∷ b ∷ [])

abbrev pub statement : Op → List ℕ
statement op = op_text op ++ codes ";\n"

-- the version, the file of gates, and a register of so many qubits
abbrev pub header : ℕ → List ℕ
header lines = codes "OPENQASM 2.0;\ninclude \"qelib1.inc\";\nqreg q[" ++ (decimal lines ++ codes "];\n")

-- the one text of a network
unfoldable pub text_of : Network → List ℕ
text_of net = header net.lines ++ flat_map statement net.ops
