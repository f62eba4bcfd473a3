use Rattle.std.proofs.Common.{◌<◌, length, arith}
use Rattle.rv_links.proofs.inside.LinkedLemmas.{gate_read}
use Rattle.rv_links.proofs.inside.UsedLemmas.{uses_next}
use Rattle.rv_links.proofs.used.used.Goals as goal

pub loop-gate-init : goal.loop-gate-init
loop-gate-init c id lt = absurd (omega (arith, lt))

pub loop-gate-preserved : goal.loop-gate-preserved
loop-gate-preserved c =
    let lt : c.loop-gate.gate-index < length c.args.gates.now = omega arith in
    uses_next _ _ _ _ c.args.gates.now _ _ (gate_read _ _ _ lt c.gate-item.is) c.read_by-read.ensures c.targets-changed.ensures c.loop-gate.invariant

pub returns : goal.returns
returns c id lt = c.loop-gate.invariant id (omega (arith, lt))
