-- The network of a circuit of flips with at most two controls.
use Rattle.std.specs.Prelude.{ℕ, ◌+◌, ◌*◌, ◌==◌, ◌&&◌, not, List, [], ◌∷◌, ◌++◌, length, if◌then◌else◌}
use Rattle.rv_gate.specs.Circuit.{Cascade}
use Rattle.rv_gate.specs.Word.{has}
use Rattle.rv_gate.specs.declared.gate.Shape.{Shape}
use Rattle.rv_gate.specs.declared.gate.Shape.TheVariants.{Flip, Swap, Peres}
use Rattle.rv_gate.specs.declared.word.TheConstants.{MOST_LINES}
use Rattle.rv_mct.specs.Blocks.{controls_of, count, count_lines}
use Rattle.rv_mct.specs.declared.control.Control.{Control}
use Rattle.rv_net.specs.Op.{Network}
use Rattle.rv_net.specs.declared.op.Op.{Op}
use Rattle.rv_net.specs.declared.op.Op.TheVariants.{X, H, T, Tdg, Cx}

-- X on a control that wants 0
abbrev pub on_zero : Control → List Op
on_zero c = if c.wanted then [] else X c.line ∷ []

-- a flip of c under a and b
unfoldable pub toffoli : ℕ → ℕ → ℕ → List Op
toffoli a b c =
    H c ∷ Cx b c ∷ Tdg c ∷ Cx a c ∷ T c ∷ Cx b c ∷ Tdg c ∷ Cx a c ∷ T b ∷ T c ∷ H c ∷ Cx a b ∷ T a ∷ Tdg b ∷ Cx a b ∷ []

-- a flip under none, one or two controls
unfoldable pub flip_ops : List Control → ℕ → List Op
flip_ops [] target = X target ∷ []
flip_ops (a ∷ []) target = on_zero a ++ (Cx a.line target ∷ on_zero a)
flip_ops (a ∷ b ∷ []) target = (on_zero a ++ on_zero b) ++ (toffoli a.line b.line target ++ (on_zero a ++ on_zero b))
flip_ops (a ∷ b ∷ c ∷ more) target = []

abbrev pub gate_ops : Shape → List Op
gate_ops (Flip care want target) = flip_ops (controls_of care want) target
gate_ops (Swap care want a b) = []
gate_ops (Peres a b c) = []

unfoldable pub network_of : List Shape → List Op
network_of [] = []
network_of (g ∷ rest) = gate_ops g ++ network_of rest

-- 1 operation with at most one control, 15 with two, and 2 more for each control that wants 0
abbrev pub gate_op_count : Shape → ℕ
gate_op_count (Flip care want target) =
    (if count_lines care == 2 then 15 else 1) + 2 * count (λ line. has care line && not (has want line)) MOST_LINES
gate_op_count (Swap care want a b) = 0
gate_op_count (Peres a b c) = 0

unfoldable pub operation_count : List Shape → ℕ
operation_count [] = 0
operation_count (g ∷ rest) = gate_op_count g + operation_count rest

-- the network of a circuit's gates, on its lines
abbrev pub expanded : Cascade → Network
expanded c = record { lines = length c.names; ops = network_of c.gates }
