use Rattle.std.proofs.Common.{◌≤◌, length, arith, ap, subst, sym}
use Rattle.std.specs.List.{flat_map}
use Rattle.std.proofs.lemmas.List.{take_all}
use Rattle.rv_io.proofs.Adding.{adds_as, adds_none}
use Rattle.rv_net.specs.Network.{gate_ops, network_of}
use Rattle.rv_net.proofs.Counting.{network_none}
use Rattle.rv_qasm.specs.Text.{statement}
use Rattle.rv_expand.proofs.Fitting.{AllFit, gate_fits}
use Rattle.rv_expand.proofs.Statements.{adds_gate}
use Rattle.rv_expand.proofs.write.put_gates.Goals as goal

pub loop-gate-init : goal.loop-gate-init
loop-gate-init g c = adds_as (ap (flat_map statement) (sym network_none)) (adds_none _ _)

pub loop-gate-preserved : goal.loop-gate-preserved
loop-gate-preserved g c =
    adds_gate c.args.gates.now c.loop-gate.gate-index c.gate-item.result c.loop-gate-test.true c.gate-item.is c.loop-gate.invariant c.put_gate.ensures

pub returns : goal.returns
returns g c =
    let gates = c.args.gates.now in
    let all : length gates ≤ c.loop-gate.gate-index = omega (arith, c.loop-gate-test.false) in
    adds_as (ap (λ some. flat_map statement (network_of some)) (take_all c.loop-gate.gate-index gates all)) c.loop-gate.invariant

pub put_gate-requires-clause-fit : goal.put_gate-requires-clause-fit
put_gate-requires-clause-fit g c =
    subst (λ gate. AllFit c.args.lines (gate_ops gate)) (sym c.gate-item.is) (gate_fits c.args.lines c.args.gates.now c.loop-gate.gate-index c.gate-item.result c.loop-gate-test.true c.requires.fit)
