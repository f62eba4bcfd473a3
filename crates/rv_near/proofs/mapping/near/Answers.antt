use Rattle.std.proofs.Common.{length}
use Rattle.rv_near.proofs.Flips.{carries-near, denotes-near}
use Rattle.rv_near.proofs.inside.Operations.{on-neighbours}
use Rattle.rv_near.proofs.mapping.near.Goals as goal

pub returns-clause-near : goal.returns-clause-near
returns-clause-near c near =
    let kept = c.recall_invariant.ensures in
    let circuit = c.args.circuit.now in
    on-neighbours (length circuit.names) circuit.gates kept.names.few (kept.valid, kept.fitting, c.requires) near

pub returns-clause-denotes : goal.returns-clause-denotes
returns-clause-denotes c =
    let kept = c.recall_invariant.ensures in
    let circuit = c.args.circuit.now in
    denotes-near (length circuit.names) circuit.gates kept.names.few (kept.valid, kept.fitting, c.requires)

pub returns-clause-carries : goal.returns-clause-carries
returns-clause-carries c =
    let kept = c.recall_invariant.ensures in
    let circuit = c.args.circuit.now in
    carries-near (length circuit.names) circuit.gates kept.names.few (kept.valid, kept.fitting, c.requires)
