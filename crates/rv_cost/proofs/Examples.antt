-- Costs, computed from the definitions. Lines are numbered from 0 on.
use Rattle.std.proofs.Common.{◌≡◌, [], ◌∷◌, length, refl}
use Rattle.std.specs.Prelude.{count_by}
use Rattle.rv_gate.specs.declared.gate.Shape.TheVariants.{Flip, Swap, Peres}
use Rattle.rv_gate.specs.Greatest.{greatest}
use Rattle.rv_mct.specs.Blocks.{count, rising}
use Rattle.std.specs.List.{sum_by}
use Rattle.rv_net.specs.Amplitude.{count_h}
use Rattle.rv_net.specs.Network.{network_of, flip_ops, toffoli}
use Rattle.rv_net.specs.Op.{is_t}
use Rattle.rv_net.specs.declared.op.Op.TheVariants.{S, T, Tdg}
use Rattle.rv_cost.specs.Levels.{highest_on, schedule_of, depth_of}
use Rattle.rv_cost.specs.CircuitCost.{counted_controls, quantum_cost, gate_depth}
use Rattle.rv_cost.specs.NetCost.{is_cnot, op_depth, op_t_depth}

-- f3 a b c: a flip with two controls costs 5, and the swap 2 more
fredkin : sum_by quantum_cost (Swap 1 1 1 2 ∷ []) ≡ 7
unfolding count
fredkin = refl

-- p3 a b d, p3 b c d
full_adder : (greatest counted_controls (Peres 0 1 3 ∷ Peres 1 2 3 ∷ []) ≡ 2)
    × (sum_by quantum_cost (Peres 0 1 3 ∷ Peres 1 2 3 ∷ []) ≡ 8) × (gate_depth (Peres 0 1 3 ∷ Peres 1 2 3 ∷ []) ≡ 2)
unfolding greatest highest_on schedule_of depth_of
full_adder = (refl, refl, refl)

-- its network, and that of one Toffoli gate
full_adder_net : (length (network_of (Flip 3 3 3 ∷ Flip 1 1 1 ∷ Flip 6 6 3 ∷ Flip 2 2 2 ∷ [])) ≡ 32)
    × (op_depth (network_of (Flip 3 3 3 ∷ Flip 1 1 1 ∷ Flip 6 6 3 ∷ Flip 2 2 2 ∷ [])) ≡ 22)
    × (op_t_depth (network_of (Flip 3 3 3 ∷ Flip 1 1 1 ∷ Flip 6 6 3 ∷ Flip 2 2 2 ∷ [])) ≡ 8)
unfolding greatest rising network_of flip_ops toffoli highest_on schedule_of depth_of
full_adder_net = (refl, refl, refl)

toffoli_net : (count_by is_t (toffoli 0 1 2) ≡ 7) × (count_h (toffoli 0 1 2) ≡ 2) × (count_by is_cnot (toffoli 0 1 2) ≡ 6)
    × (op_depth (toffoli 0 1 2) ≡ 11) × (op_t_depth (toffoli 0 1 2) ≡ 4)
unfolding greatest toffoli count_h highest_on schedule_of depth_of
toffoli_net = (refl, refl, refl, refl, refl)

-- S adds a level, and no T-level
s_between : (op_depth (T 0 ∷ S 0 ∷ Tdg 0 ∷ []) ≡ 3) × (op_t_depth (T 0 ∷ S 0 ∷ Tdg 0 ∷ []) ≡ 2)
unfolding greatest highest_on schedule_of depth_of
s_between = (refl, refl)
