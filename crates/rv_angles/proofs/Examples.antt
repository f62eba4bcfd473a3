-- Worked examples, which the checker computes.
use Rattle.std.proofs.Common.{◌≡◌, ℕ, List, [], ◌∷◌, Option, Some, None, codes, refl}
use Rattle.std.specs.Option.{option_and_then, option_map}
use Rattle.rv_net.specs.declared.op.Op.{Op}
use Rattle.rv_net.specs.declared.op.Op.TheVariants.{X, H, Sdg, T, Tdg, Cx}
use Rattle.rv_angles.specs.Decimal.{padded}
use Rattle.rv_angles.specs.Angle.{angle_of}
use Rattle.rv_angles.specs.Named.{gate_of}
use Rattle.rv_angles.specs.Form.{form_of}
use Rattle.rv_angles.specs.Ops.{ops_on}

-- ---- angles as Qiskit, tket, PyZX and Cirq write them

quarter : angle_of (codes "pi" ∷ codes "/" ∷ codes "4" ∷ []) ≡ Some 1
unfolding padded
quarter = refl

negative : angle_of (codes "-" ∷ codes "3" ∷ codes "*" ∷ codes "pi" ∷ codes "/" ∷ codes "4" ∷ []) ≡ Some 13
unfolding padded
negative = refl

of_tket : angle_of (codes "0.25" ∷ codes "*" ∷ codes "pi" ∷ []) ≡ Some 1
unfolding padded
of_tket = refl

of_cirq : angle_of (codes "pi" ∷ codes "*" ∷ codes "-" ∷ codes "0.75" ∷ []) ≡ Some 13
unfolding padded
of_cirq = refl

in_radians : angle_of (codes "1.5707963267948966" ∷ []) ≡ Some 2
unfolding padded
in_radians = refl

nothing : angle_of (codes "0" ∷ []) ≡ Some 0
unfolding padded
nothing = refl

too_fine : angle_of (codes "pi" ∷ codes "/" ∷ codes "8" ∷ []) ≡ None
unfolding padded
too_fine = refl

not_near : angle_of (codes "0.1" ∷ []) ≡ None
unfolding padded
not_near = refl

unended : angle_of (codes "pi" ∷ codes "/" ∷ []) ≡ None
unfolding padded
unended = refl

by_nothing : angle_of (codes "pi" ∷ codes "/" ∷ codes "0" ∷ []) ≡ None
unfolding padded
by_nothing = refl

-- ---- gates

ops_for : List ℕ → List ℕ → List ℕ → Option (List Op)
ops_for name angles qubits = option_map (λ form. ops_on form qubits) (option_and_then form_of (gate_of name angles))

u2_is_h : ops_for (codes "u2") (0 ∷ 4 ∷ []) (0 ∷ []) ≡ Some (H 0 ∷ [])
unfolding ops_for
u2_is_h = refl

u1_is_sdg : ops_for (codes "u1") (6 ∷ []) (0 ∷ []) ≡ Some (Sdg 0 ∷ [])
unfolding ops_for
u1_is_sdg = refl

u3_is_x : ops_for (codes "u3") (4 ∷ 0 ∷ 4 ∷ []) (0 ∷ []) ≡ Some (X 0 ∷ [])
unfolding ops_for
u3_is_x = refl

-- e^(-i pi/4), 0; 0, e^(i pi/4)
rz_is : ops_for (codes "rz") (2 ∷ []) (1 ∷ []) ≡ Some (T 1 ∷ X 1 ∷ Tdg 1 ∷ X 1 ∷ [])
unfolding ops_for
rz_is = refl

rz_refused : ops_for (codes "rz") (1 ∷ []) (1 ∷ []) ≡ None
unfolding ops_for
rz_refused = refl

rx_is : ops_for (codes "rx") (2 ∷ []) (0 ∷ []) ≡ Some (Sdg 0 ∷ H 0 ∷ Sdg 0 ∷ [])
unfolding ops_for
rx_is = refl

-- qelib1.inc's own body, by halves of the angle
cu1_is : ops_for (codes "cu1") (2 ∷ []) (0 ∷ 1 ∷ []) ≡ Some (T 0 ∷ T 1 ∷ Cx 0 1 ∷ Tdg 1 ∷ Cx 0 1 ∷ [])
unfolding ops_for
cu1_is = refl

crz_is : ops_for (codes "crz") (2 ∷ []) (0 ∷ 1 ∷ []) ≡ Some (T 1 ∷ Cx 0 1 ∷ Tdg 1 ∷ Cx 0 1 ∷ [])
unfolding ops_for
crz_is = refl

cu1_refused : ops_for (codes "cu1") (1 ∷ []) (0 ∷ 1 ∷ []) ≡ None
unfolding ops_for
cu1_refused = refl

unknown : ops_for (codes "foo") [] (0 ∷ []) ≡ None
unfolding ops_for
unknown = refl
