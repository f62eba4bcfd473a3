use Rattle.std.proofs.Common.{length}
use Rattle.rv_net.proofs.Counting.{length-network}
use Rattle.rv_net.proofs.expanding.count_operations.Goals as goal

pub returns-clause-count : goal.returns-clause-count
returns-clause-count c =
    let kept = c.recall_invariant.ensures in
    length-network (length c.args.circuit.now.names) c.args.circuit.now.gates (kept.valid, kept.fitting, c.requires)
