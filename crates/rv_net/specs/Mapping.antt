-- What the network of a decomposed circuit is to the circuit.
use Rattle.std.specs.Prelude.{◌≡◌, length}
use Rattle.rv_gate.specs.Circuit.{Cascade}
use Rattle.rv_gate.specs.Gate.{run}
use Rattle.rv_mct.specs.Widened.{decomposed, helper_count, lines_with_helpers}
use Rattle.rv_mct.specs.declared.aux.Aux.{Aux}
use Rattle.rv_net.specs.Denotes.{Carries}
use Rattle.rv_net.specs.Network.{network_of, operation_count}
use Rattle.rv_net.specs.Op.{IsNetwork, Network}

-- A network on the lines of the decomposed circuit, with the operations of its gates. It carries the circuit: for each
-- word and whatever the helper lines may hold, its exact amplitudes are those of the circuit's permutation, which gives
-- the helper lines back, times the root of two for each H; no phase is free.
pub record Maps (aux : Aux) (c : Cascade) (net : Network) : Type 0 where
  pub valid : IsNetwork net
  pub lines : net.lines ≡ lines_with_helpers aux c
  pub ops : net.ops ≡ network_of (decomposed aux c).gates
  pub counted : length net.ops ≡ operation_count (decomposed aux c).gates
  pub carries : Carries aux (length c.names) (helper_count aux c) net.ops (run c.gates)
