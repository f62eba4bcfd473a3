-- What the network of a circuit is to the circuit, whose flips leave phases of their controls that join elsewhere.
use Rattle.std.specs.Prelude.{◌≡◌, ◌≤◌, count_by, length}
use Rattle.rv_gate.specs.Circuit.{Cascade}
use Rattle.rv_gate.specs.Gate.{run}
use Rattle.rv_mct.specs.Widened.{helper_count, lines_with_helpers}
use Rattle.rv_mct.specs.declared.aux.Aux.{Aux}
use Rattle.rv_net.specs.Denotes.{Carries}
use Rattle.rv_net.specs.Op.{IsNetwork, Network, is_t}
use Rattle.rv_ladder.specs.Counts.{relative_count, turns}

-- On the lines of the circuit and its helper lines. For each word and whatever the helper lines may hold, the exact
-- amplitudes are those of the circuit's permutation, which gives these lines back, times the root of two for each H; no
-- phase is free. There are no more T than if each large gate became a ladder by itself.
pub record MapsJoined (aux : Aux) (c : Cascade) (net : Network) : Type 0 where
  pub valid : IsNetwork net
  pub lines : net.lines ≡ lines_with_helpers aux c
  pub turned : count_by is_t net.ops ≤ relative_count turns aux c
  pub carries : Carries aux (length c.names) (helper_count aux c) net.ops (run c.gates)
