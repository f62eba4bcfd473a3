-- The circuit of operations that move words.
use Rattle.std.specs.Prelude.{◌≡◌, ℕ, ◌+◌, ◌^◌, ◌≤◌, not, bit_or, nat_lt, Bool, true, List, All, length, is_some, if◌then◌else◌, option_to_list, flat_map, Option, Some, None}
use Rattle.std.specs.List.{position_or_len}
use Rattle.rv_gate.specs.Circuit.{Cascade, fresh}
use Rattle.rv_gate.specs.Names.{numbered}
use Rattle.rv_gate.specs.declared.gate.Shape.{Shape}
use Rattle.rv_gate.specs.declared.gate.Shape.TheVariants as gate
use Rattle.rv_gate.specs.declared.circuit.TheConstants.{MOST_GATES}
use Rattle.rv_net.specs.Op.{Network}
use Rattle.rv_net.specs.declared.op.Op.{Op}
use Rattle.rv_net.specs.declared.op.Op.TheVariants.{X, Y, Z, H, S, Sdg, T, Tdg, Cx, Cz, Ccx, Swap, Cswap}
use Rattle.rv_qasm.specs.declared.back.BackFault.{BackFault}
use Rattle.rv_qasm.specs.declared.back.BackFault.TheVariants.{NotClassical, TooManyGates}

-- the gate that moves words as an operation does, whose controls all want 1
abbrev pub classical_gate : Op → Option Shape
classical_gate (X a) = Some (gate.Flip 0 0 a)
classical_gate (Cx a b) = Some (gate.Flip (2 ^ a) (2 ^ a) b)
classical_gate (Ccx a b c) = Some (gate.Flip (bit_or (2 ^ a) (2 ^ b)) (bit_or (2 ^ a) (2 ^ b)) c)
classical_gate (Swap a b) = Some (gate.Swap 0 0 a b)
classical_gate (Cswap c a b) = Some (gate.Swap (2 ^ c) (2 ^ c) a b)
classical_gate (Y a) = None
classical_gate (Z a) = None
classical_gate (H a) = None
classical_gate (S a) = None
classical_gate (Sdg a) = None
classical_gate (T a) = None
classical_gate (Tdg a) = None
classical_gate (Cz a b) = None

abbrev pub is_classical : Op → Bool
is_classical op = is_some (classical_gate op)

abbrev pub classical_gates : List Op → List Shape
classical_gates ops = flat_map (λ op. option_to_list (classical_gate op)) ops

-- one gate for each operation, on lines x0, x1 and so on
abbrev pub circuit_back : Network → Cascade
circuit_back net = record (fresh (numbered 120 net.lines)) { gates = classical_gates net.ops }

-- each operation is classical, and they are no more than a circuit may have gates
pub record AreClassical (ops : List Op) : Type 0 where
  pub each : All (λ op. is_classical op ≡ true) ops
  pub few : length ops ≤ MOST_GATES

-- how many operations stand before the first that is not classical
abbrev pub classical_length : List Op → ℕ
classical_length ops = position_or_len (λ op. not (is_classical op)) ops

-- Why operations are no circuit: the first that is not classical, counted from 1, or else how many there are.
abbrev pub back_fault : List Op → Option BackFault
back_fault ops =
    if nat_lt (classical_length ops) (length ops) then Some (NotClassical (classical_length ops + 1))
    else (if nat_lt MOST_GATES (length ops) then Some (TooManyGates (length ops)) else None)
