use Rattle.std.proofs.Common.{false}
use Rattle.std.proofs.lemmas.List.{take-replicate}
use Rattle.rv_gate.specs.declared.circuit.Mark.TheVariants.{Input}
use Rattle.rv_perm.proofs.spec.PermSpec.new.Goals as goal

pub returns : goal.returns
returns c =
    let few = c.recall_invariant.ensures.1 in
    rw (take-replicate c.args.perm.lines 16 Input few, take-replicate c.args.perm.lines 16 false few)
