-- The operations of a form.
use Rattle.std.specs.Prelude.{ℕ, ◌*◌, ◌%◌, ◌==◌, List, [], ◌∷◌, ◌++◌, if◌then◌else◌}
use Rattle.rv_net.specs.declared.op.Op.{Op}
use Rattle.rv_net.specs.declared.op.Op.TheVariants.{X, Z, H, S, Sdg, T, Tdg, Cx, Ccx}
use Rattle.rv_angles.specs.declared.form.Middle.{Middle}
use Rattle.rv_angles.specs.declared.form.Middle.TheVariants as middle
use Rattle.rv_angles.specs.declared.form.Turn.{Turn}
use Rattle.rv_angles.specs.declared.form.Phased.{Phased}
use Rattle.rv_angles.specs.declared.form.Form.{Form}
use Rattle.rv_angles.specs.declared.form.Form.TheVariants.{Turned, Sx, Sxdg, Phased as Phases, Cy, Ch, Ccz}

-- a power of w below the eighth where the qubit is 1
abbrev pub small_phase_ops : ℕ → ℕ → List Op
small_phase_ops power q =
    if power == 0 then []
    else (if power == 1 then T q ∷ []
    else (if power == 2 then S q ∷ []
    else (if power == 3 then S q ∷ T q ∷ []
    else (if power == 4 then Z q ∷ []
    else (if power == 5 then Z q ∷ T q ∷ []
    else (if power == 6 then Sdg q ∷ []
    else Tdg q ∷ []))))))

-- any power
abbrev pub phase_ops : ℕ → ℕ → List Op
phase_ops power q = small_phase_ops (power % 8) q

-- a power of w where the qubit is 0
abbrev pub zero_ops : ℕ → ℕ → List Op
zero_ops power q = if power % 8 == 0 then [] else X q ∷ (phase_ops power q ++ X q ∷ [])

abbrev pub middle_ops : Middle → ℕ → List Op
middle_ops middle.Nothing q = []
middle_ops middle.X q = X q ∷ []
middle_ops middle.H q = H q ∷ []

abbrev pub turn_ops : Turn → ℕ → List Op
turn_ops turn q = ((phase_ops turn.one q ++ zero_ops turn.zero q) ++ middle_ops turn.middle q) ++ phase_ops turn.after q

abbrev pub phased_ops : Phased → ℕ → ℕ → List Op
phased_ops phased a b =
    (((phase_ops phased.control a ++ phase_ops phased.target b) ++ Cx a b ∷ [])
    ++ phase_ops (7 * (phased.target % 8)) b) ++ Cx a b ∷ []

-- on qubits, controls first
abbrev pub ops_on : Form → List ℕ → List Op
ops_on (Turned turn) (q ∷ []) = turn_ops turn q
ops_on Sx (q ∷ []) = H q ∷ S q ∷ H q ∷ []
ops_on Sxdg (q ∷ []) = H q ∷ Sdg q ∷ H q ∷ []
ops_on (Phases phased) (a ∷ b ∷ []) = phased_ops phased a b
ops_on Cy (a ∷ b ∷ []) = Sdg b ∷ Cx a b ∷ S b ∷ []
ops_on Ch (a ∷ b ∷ []) = S b ∷ H b ∷ T b ∷ Cx a b ∷ Tdg b ∷ H b ∷ Sdg b ∷ []
ops_on Ccz (a ∷ b ∷ c ∷ []) = H c ∷ Ccx a b c ∷ H c ∷ []
ops_on _ _ = []
