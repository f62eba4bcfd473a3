-- Worked examples, which the checker computes: statements of gates on qubits of a register q of two or three qubits.
use Rattle.std.proofs.Common.{◌≡◌, ℕ, List, [], ◌∷◌, ◌++◌, Option, Some, None, codes, refl}
use Rattle.std.specs.Option.{option_map}
use Rattle.rv_net.specs.declared.op.Op.{Op}
use Rattle.rv_net.specs.declared.op.Op.TheVariants.{H, S, Tdg, X, Sdg, Cx, Ccx}
use Rattle.rv_angles.specs.Decimal.{padded}
use Rattle.rv_import.specs.Calls.{call_ops}
use Rattle.rv_import.specs.Statement.{angles_from, gate_call}

abbrev qubit : List ℕ → List (List ℕ)
qubit digits = codes "q" ∷ codes "[" ∷ digits ∷ codes "]" ∷ []

abbrev ops_in : ℕ → List (List ℕ) → Option (List Op)
ops_in size tokens = option_map call_ops (gate_call (record { name = codes "q"; first = 0; size = size } ∷ []) tokens)

plain : ops_in 3 (codes "ccx" ∷ (qubit (codes "2") ++ codes "," ∷ (qubit (codes "0") ++ codes "," ∷ qubit (codes "1")))) ≡ Some (Ccx 2 0 1 ∷ [])
plain = refl

-- p(-pi/4) is the inverse of T
negative : ops_in 2 (codes "p" ∷ codes "(" ∷ codes "-" ∷ codes "pi" ∷ codes "/" ∷ codes "4" ∷ codes ")" ∷ qubit (codes "1")) ≡ Some (Tdg 1 ∷ [])
unfolding angles_from padded
negative = refl

-- u2(0, pi) is H
two_angles : ops_in 2 (codes "u2" ∷ codes "(" ∷ codes "0" ∷ codes "," ∷ codes "pi" ∷ codes ")" ∷ qubit (codes "0")) ≡ Some (H 0 ∷ [])
unfolding angles_from padded
two_angles = refl

-- u3(pi, 0, pi) is X
three_angles : ops_in 2 (codes "u3" ∷ codes "(" ∷ codes "pi" ∷ codes "," ∷ codes "0" ∷ codes "," ∷ codes "pi" ∷ codes ")" ∷ qubit (codes "0")) ≡ Some (X 0 ∷ [])
unfolding angles_from padded
three_angles = refl

controlled : ops_in 2 (codes "cy" ∷ (qubit (codes "0") ++ codes "," ∷ qubit (codes "1"))) ≡ Some (Sdg 1 ∷ Cx 0 1 ∷ S 1 ∷ [])
controlled = refl

-- rz(pi/4) has entries that are no powers of w
odd : ops_in 2 (codes "rz" ∷ codes "(" ∷ codes "pi" ∷ codes "/" ∷ codes "4" ∷ codes ")" ∷ qubit (codes "0")) ≡ None
unfolding angles_from padded
odd = refl

beyond : ops_in 2 (codes "x" ∷ qubit (codes "2")) ≡ None
beyond = refl

other_register : ops_in 2 (codes "x" ∷ codes "r" ∷ codes "[" ∷ codes "0" ∷ codes "]" ∷ []) ≡ None
other_register = refl

unclosed : ops_in 2 (codes "p" ∷ codes "(" ∷ codes "pi" ∷ qubit (codes "0")) ≡ None
unfolding angles_from padded
unclosed = refl

one_angle_missing : ops_in 2 (codes "u2" ∷ codes "(" ∷ codes "pi" ∷ codes ")" ∷ qubit (codes "0")) ≡ None
unfolding angles_from padded
one_angle_missing = refl

nothing : ops_in 2 [] ≡ None
nothing = refl
