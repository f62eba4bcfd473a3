-- The gate that a name and angles stand for on qubits, by qelib1.inc and stdgates.inc. Angles are multiples of pi/4.
use Rattle.std.specs.Prelude.{ℕ, List, [], ◌∷◌, codes, bytes_eq, if◌then◌else◌, Option, Some, None, option_map}
use Rattle.rv_net.specs.declared.op.Op.{Op}
use Rattle.rv_net.specs.declared.op.Op.TheVariants.{X, Y, Z, H, S, Sdg, T, Tdg, Cx, Cz, Ccx, Swap, Cswap}
use Rattle.rv_angles.specs.Matrix.{u_matrix}
use Rattle.rv_angles.specs.Named.{gate_of}
use Rattle.rv_angles.specs.declared.gate.Gate.{Gate}
use Rattle.rv_angles.specs.declared.gate.Gate.TheVariants as gate
use Rattle.rv_import.specs.declared.call.Call.{Call}
use Rattle.rv_import.specs.declared.call.Call.TheVariants.{Plain, Standard}
use Rattle.rv_import.specs.declared.call.Qubits.{Qubits}
use Rattle.rv_import.specs.declared.call.Qubits.TheVariants.{One, Two, Three}

abbrev pub op_on_one : List ℕ → ℕ → Option Op
op_on_one name a =
    if bytes_eq name (codes "x") then Some (X a)
    else (if bytes_eq name (codes "y") then Some (Y a)
    else (if bytes_eq name (codes "z") then Some (Z a)
    else (if bytes_eq name (codes "h") then Some (H a)
    else (if bytes_eq name (codes "s") then Some (S a)
    else (if bytes_eq name (codes "sdg") then Some (Sdg a)
    else (if bytes_eq name (codes "t") then Some (T a)
    else (if bytes_eq name (codes "tdg") then Some (Tdg a)
    else None)))))))

-- controls first; `CX` is OpenQASM 2.0's own name
abbrev pub op_on_two : List ℕ → ℕ → ℕ → Option Op
op_on_two name a b =
    if bytes_eq name (codes "cx") then Some (Cx a b)
    else (if bytes_eq name (codes "CX") then Some (Cx a b)
    else (if bytes_eq name (codes "cz") then Some (Cz a b)
    else (if bytes_eq name (codes "swap") then Some (Swap a b)
    else None)))

abbrev pub op_on_three : List ℕ → ℕ → ℕ → ℕ → Option Op
op_on_three name a b c =
    if bytes_eq name (codes "ccx") then Some (Ccx a b c)
    else (if bytes_eq name (codes "cswap") then Some (Cswap a b c)
    else None)

-- one that a network has
abbrev pub op_of : List ℕ → Qubits → Option Op
op_of name (One a) = op_on_one name a
op_of name (Two a b) = op_on_two name a b
op_of name (Three a b c) = op_on_three name a b c

-- `id` is U(0, 0, 0)
abbrev pub standard_of : List ℕ → List ℕ → Option Gate
standard_of name [] = if bytes_eq name (codes "id") then Some (gate.One (u_matrix 0 0 0)) else gate_of name []
standard_of name (angle ∷ angles) = gate_of name (angle ∷ angles)

-- by a matrix
abbrev pub standard_call : List ℕ → List ℕ → Qubits → Option Call
standard_call name angles qubits = option_map (λ g. Standard g qubits) (standard_of name angles)

abbrev pub plain_or : Option Op → Option Call → Option Call
plain_or (Some op) other = Some (Plain op)
plain_or None other = other

-- the gate of this name on as many qubits
abbrev pub call_of : List ℕ → List ℕ → Qubits → Option Call
call_of name [] qubits = plain_or (op_of name qubits) (standard_call name [] qubits)
call_of name (angle ∷ angles) qubits = standard_call name (angle ∷ angles) qubits
