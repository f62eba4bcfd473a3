use Rattle.std.proofs.Common.{rules}
use Rattle.rv_compute.proofs.inside.Computed.{fit_none, fit_more, fit_all}
use Rattle.rv_compute.proofs.run.all_fit.Goals as goal

pub loop-gate-init : goal.loop-gate-init
loop-gate-init c = fit_none c.args.lines c.args.gates.now

pub loop-gate-preserved : goal.loop-gate-preserved
loop-gate-preserved c =
    fit_more c.args.lines c.args.gates.now c.loop-gate.gate-index c.gate-item.result c.loop-gate.invariant
    c.loop-gate-test.true c.gate-item.is c.recall_invariant.ensures (c.fits.ensures.0 (search rules))

pub returns : goal.returns
returns c on =
    fit_all c.args.lines c.args.gates.now c.loop-gate.gate-index c.loop-gate-test.false c.loop-gate.invariant
