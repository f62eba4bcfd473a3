use Rattle.std.proofs.Common.{arith, length}
use Rattle.rv_net.proofs.Counting.{length-network, network_fits}
use Rattle.rv_net.proofs.inside.Network.{ArePlain}
use Rattle.rv_expand.proofs.expansion.Expansion.of_circuit.Goals as goal

pub invariant_of-result : goal.invariant_of-result
invariant_of-result c =
    let kept = c.recall_invariant.ensures in
    let n = length c.args.circuit.names in
    let plain : ArePlain n c.args.circuit.gates = (kept.valid, kept.fitting, c.requires) in
    record {
      some = kept.some;
      few = kept.names.few;
      bounded = omega (arith, length-network n c.args.circuit.gates plain, c.if-count-gt-MOST_OPS.false, c.count_operations-count.ensures.value);
      fitting = network_fits n c.args.circuit.gates plain;
    }
