use Rattle.std.proofs.Common.{arith}
use Rattle.rv_gate.proofs.NameLemmas.{labels_more}
use Rattle.rv_gate.proofs.circuit.labels_of.Goals as goal

pub loop-line-preserved : goal.loop-line-preserved
loop-line-preserved c =
    rw c.in_ok-push.ensures.items
    (labels_more c.args.names.now c.loop-line.labels.items c.in_ok-from_slice.field-0 c.loop-line.line c.name.result.now c.loop-line.invariant c.name.ensures c.in_ok-from_slice.ensures.items (omega arith))
