-- The network of a circuit carries it, with as many operations, T and H as are counted.
use Rattle.std.proofs.Common.{◌≤◌, ℕ, length, refl, arith}
use Rattle.rv_gate.specs.Circuit.{Cascade, IsCascade}
use Rattle.rv_gate.specs.declared.word.TheConstants.{MOST_LINES}
use Rattle.rv_mct.specs.Widened.{helper_count, lines_with_helpers}
use Rattle.rv_mct.specs.declared.aux.Aux.{Aux}
use Rattle.rv_net.specs.Amplitude.{count_h}
use Rattle.rv_net.specs.declared.net.TheConstants.{MOST_OPS}
use Rattle.rv_ladder.specs.Counts.{hadamards, operations, relative_count, turns as turned}
use Rattle.rv_ladder.specs.Relative.{MapsRelative, relative_net}
use Rattle.rv_ladder.proofs.Counting.{hadamards-are, operations-are, size, turns, turns-are}
use Rattle.rv_ladder.proofs.inside.Circuits.{carries_relative, network_fitting}
use Rattle.rv_ladder.proofs.inside.Totals.{network-total}

-- the law
pub maps_relative : (aux : Aux) (c : Cascade) → IsCascade c → lines_with_helpers aux c ≤ MOST_LINES → relative_count operations aux c ≤ MOST_OPS
    → MapsRelative aux c (relative_net aux c)
maps_relative aux c given few short =
    let n : ℕ = length c.names in
    let extra : ℕ = helper_count aux c in
    let enough : extra ≤ extra = omega arith in
    let counted = network-total operations size operations-are aux n extra c.gates few given.valid given.fitting enough in
    record {
      valid = record {
        some = omega (arith, given.some);
        few = few;
        bounded = omega (arith, counted, short);
        fitting = network_fitting aux n extra c.gates few given.valid given.fitting enough;
      };
      is = refl;
      counted = counted;
      turned = network-total turned turns turns-are aux n extra c.gates few given.valid given.fitting enough;
      rooted = network-total hadamards count_h hadamards-are aux n extra c.gates few given.valid given.fitting enough;
      carries = carries_relative aux n extra c.gates few given.valid given.fitting enough;
    }
