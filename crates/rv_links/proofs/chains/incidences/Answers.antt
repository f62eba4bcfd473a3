use Rattle.std.proofs.Common.{◌<◌, length, arith}
use Rattle.rv_links.proofs.inside.LinkedLemmas.{gate_read}
use Rattle.rv_links.proofs.inside.WindowLemmas.{incidences_more, incidences_all}
use Rattle.rv_links.proofs.chains.incidences.Goals as goal

pub loop-gate-preserved : goal.loop-gate-preserved
loop-gate-preserved c =
    let lt : c.loop-gate.gate-index < length c.args.gates.now = omega arith in
    let m = incidences_more _ _ _ lt (gate_read _ _ _ lt c.gate-item.is) in
    let e = c.incidence.ensures.is in
    let s = c.incidence.ensures.small in
    let f = c.from-sum.ensures in
    let i = c.loop-gate.invariant in
    (omega arith, omega arith)

pub returns : goal.returns
returns c =
    let z = incidences_all c.args.gates.now c.loop-gate.gate-index (omega arith) in
    let i = c.loop-gate.invariant in
    omega arith
