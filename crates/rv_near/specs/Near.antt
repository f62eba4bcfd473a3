-- The network of a circuit of flips with at most two controls, in which CNOT joins neighbours where a flip's lines are
-- a row.
use Rattle.std.specs.Prelude.{◌≡◌, ◌≤◌, ℕ, ◌+◌, ◌==◌, ◌&&◌, ◌||◌, ◌⊎◌, Bool, List, [], ◌∷◌, ◌++◌, All, if◌then◌else◌, length}
use Rattle.std.specs.List.{flat_map}
use Rattle.rv_gate.specs.Circuit.{Cascade}
use Rattle.rv_gate.specs.Gate.{run}
use Rattle.rv_gate.specs.declared.gate.Shape.{Shape}
use Rattle.rv_gate.specs.declared.gate.Shape.TheVariants.{Flip, Swap as SwapGate, Peres}
use Rattle.rv_mct.specs.Blocks.{controls_of, count_lines}
use Rattle.rv_mct.specs.Widened.{decomposed, helper_count, lines_with_helpers}
use Rattle.rv_mct.specs.declared.aux.Aux.{Aux}
use Rattle.rv_mct.specs.declared.control.Control.{Control}
use Rattle.rv_route.specs.Placement.{IsNear}
use Rattle.rv_net.specs.Denotes.{Carries}
use Rattle.rv_net.specs.Network.{flip_ops, on_zero, toffoli}
use Rattle.rv_net.specs.Op.{IsNetwork, Network}
use Rattle.rv_net.specs.declared.op.Op.{Op}
use Rattle.rv_net.specs.declared.op.Op.TheVariants.{H, T, Tdg, Cx, Cz, Ccx, Swap, Cswap}

-- the second line stands between the others, next to both
abbrev pub is_row : ℕ → ℕ → ℕ → Bool
is_row a b c = ((a + 1 == b) && (b + 1 == c)) || ((c + 1 == b) && (b + 1 == a))

-- a flip of t, one of the lines p, q and r, under the two others: CNOT joins p and q, and q and r
unfoldable pub row_block : ℕ → ℕ → ℕ → ℕ → List Op
row_block p q r t =
    H t ∷ T p ∷ T q ∷ T r ∷ Cx p q ∷ Tdg q ∷ Cx q r ∷ T r ∷ Cx p q ∷ Cx q r ∷ Tdg r ∷ Cx p q ∷ Cx q r ∷ Tdg r ∷ Cx p q
    ∷ Cx q r ∷ H t ∷ []

-- a flip of c under a and b, by the line that stands between the two others, if one does
abbrev pub near_block : ℕ → ℕ → ℕ → List Op
near_block a b c =
    if is_row a b c then row_block a b c c
    else (if is_row a c b then row_block a c b c
    else (if is_row b a c then row_block b a c c
    else toffoli a b c))

-- a flip under none, one or two controls
unfoldable pub near_flip : List Control → ℕ → List Op
near_flip [] t = flip_ops [] t
near_flip (a ∷ []) t = flip_ops (a ∷ []) t
near_flip (a ∷ b ∷ []) t = (on_zero a ++ on_zero b) ++ (near_block a.line b.line t ++ (on_zero a ++ on_zero b))
near_flip (a ∷ b ∷ c ∷ more) t = flip_ops (a ∷ b ∷ c ∷ more) t

abbrev pub near_gate : Shape → List Op
near_gate (Flip care want t) = near_flip (controls_of care want) t
near_gate (SwapGate care want a b) = []
near_gate (Peres a b c) = []

abbrev pub near_ops : List Shape → List Op
near_ops gates = flat_map near_gate gates

-- the network of a circuit's gates, on its lines
abbrev pub near_net : Cascade → Network
near_net c = record { lines = length c.names; ops = near_ops c.gates }

-- the operation is on one line, or on two that are neighbours
abbrev pub IsOnNeighbours : Op → Type 0
IsOnNeighbours (Cx a b) = (a + 1 ≡ b) ⊎ (b + 1 ≡ a)
IsOnNeighbours (Cz a b) = (a + 1 ≡ b) ⊎ (b + 1 ≡ a)
IsOnNeighbours (Swap a b) = (a + 1 ≡ b) ⊎ (b + 1 ≡ a)
IsOnNeighbours (Ccx a b c) = ⊥
IsOnNeighbours (Cswap c a b) = ⊥
IsOnNeighbours _ = Unit {0}

-- A gate as a circuit has it that was decomposed and then routed: its lines are consecutive, and it is a flip with at
-- most two controls, or a swap without a control.
abbrev pub IsRouted : Shape → Type 0
IsRouted (Flip care want t) = (count_lines care ≤ 2) × IsNear (Flip care want t)
IsRouted (SwapGate care want a b) = (care ≡ 0) × IsNear (SwapGate care want a b)
IsRouted (Peres a b c) = ⊥

-- A network on the lines of the decomposed circuit. If each gate of that circuit touches consecutive lines, each
-- operation is on neighbours; and so it is if each gate of the given circuit is as `route` leaves it. For each word and
-- whatever the helper lines may hold, its exact amplitudes are those of the circuit's permutation, which gives the
-- helper lines back, times the root of two for each H; no phase is free.
pub record MapsNear (aux : Aux) (c : Cascade) (net : Network) : Type 0 where
  pub valid : IsNetwork net
  pub lines : net.lines ≡ lines_with_helpers aux c
  pub is : net ≡ near_net (decomposed aux c)
  pub near : All IsNear (decomposed aux c).gates → All IsOnNeighbours net.ops
  pub routed : All IsRouted c.gates → All IsOnNeighbours net.ops
  pub carries : Carries aux (length c.names) (helper_count aux c) net.ops (run c.gates)
