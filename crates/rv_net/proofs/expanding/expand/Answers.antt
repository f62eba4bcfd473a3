use Rattle.std.proofs.Common.{length}
use Rattle.rv_net.specs.Network.{network_of}
use Rattle.rv_net.proofs.Counting.{length-network}
use Rattle.rv_net.proofs.Matrix.{product_everywhere}
use Rattle.rv_net.proofs.inside.Network.{carries-network, denotes-network}
use Rattle.rv_net.proofs.expanding.expand.Goals as goal

pub returns-clause-denotes : goal.returns-clause-denotes
returns-clause-denotes c =
    let kept = c.recall_invariant.ensures in
    denotes-network (length c.args.circuit.now.names) c.args.circuit.now.gates kept.names.few (kept.valid, kept.fitting, c.requires)

pub returns-clause-carries : goal.returns-clause-carries
returns-clause-carries c =
    let kept = c.recall_invariant.ensures in
    carries-network (length c.args.circuit.now.names) c.args.circuit.now.gates kept.names.few (kept.valid, kept.fitting, c.requires)

pub returns-clause-product : goal.returns-clause-product
returns-clause-product c = product_everywhere (network_of c.args.circuit.now.gates)

pub returns-clause-count : goal.returns-clause-count
returns-clause-count c =
    let kept = c.recall_invariant.ensures in
    length-network (length c.args.circuit.now.names) c.args.circuit.now.gates (kept.valid, kept.fitting, c.requires)
