-- What the network of a circuit is to the circuit, whose large gates become ladders up to powers of w that cancel.
use Rattle.std.specs.Prelude.{◌≡◌, count_by, length}
use Rattle.rv_gate.specs.Circuit.{Cascade}
use Rattle.rv_gate.specs.Gate.{run}
use Rattle.rv_mct.specs.Widened.{helper_count, lines_with_helpers}
use Rattle.rv_mct.specs.declared.aux.Aux.{Aux}
use Rattle.rv_net.specs.Amplitude.{count_h}
use Rattle.rv_net.specs.Denotes.{Carries}
use Rattle.rv_net.specs.Op.{IsNetwork, Network, is_t}
use Rattle.rv_ladder.specs.Counts.{hadamards, operations, relative_count, turns}
use Rattle.rv_ladder.specs.Ladder.{relative_network}

-- on the lines of a circuit, with as many helper lines after them as its decomposition has
abbrev pub relative_net : Aux → Cascade → Network
relative_net aux c = record {
  lines = lines_with_helpers aux c;
  ops = relative_network aux (length c.names) (helper_count aux c) c.gates;
}

-- For each word and whatever the helper lines may hold, the exact amplitudes are those of the circuit's permutation,
-- which gives these lines back, times the root of two for each H; no phase is free. The operations are as many as the
-- counts say, and so are T and H.
pub record MapsRelative (aux : Aux) (c : Cascade) (net : Network) : Type 0 where
  pub valid : IsNetwork net
  pub is : net ≡ relative_net aux c
  pub counted : length net.ops ≡ relative_count operations aux c
  pub turned : count_by is_t net.ops ≡ relative_count turns aux c
  pub rooted : count_h net.ops ≡ relative_count hadamards aux c
  pub carries : Carries aux (length c.names) (helper_count aux c) net.ops (run c.gates)
