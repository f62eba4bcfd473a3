use Rattle.std.proofs.Common.{◌<◌, length, ap, arith}
use Rattle.rv_mct.specs.Blocks.{wish, block_of}
use Rattle.rv_gate.proofs.Greatest.{greatest_at}
use Rattle.rv_mct.proofs.inside.Steps.{grown_none, grown_next}
use Rattle.rv_mct.proofs.whole.add_decomposition.Goals as goal

pub loop-gate-init : goal.loop-gate-init
loop-gate-init c = grown_none c.args.circuit.now (block_of c.args.aux c.args.lines c.args.extra)

pub add_block-requires-clause-enough : goal.add_block-requires-clause-enough
add_block-requires-clause-enough c =
    let h : c.loop-gate.gate-index < length c.args.gates.now = omega arith in
    let g = greatest_at (wish c.args.aux c.args.lines) c.args.gates.now c.loop-gate.gate-index c.gate-item.result h in
    let e = ap (wish c.args.aux c.args.lines) c.gate-item.is in
    omega (arith, c.requires.enough)

pub loop-gate-preserved : goal.loop-gate-preserved
loop-gate-preserved c =
    let h : c.loop-gate.gate-index < length c.args.gates.now = omega arith in
    grown_next c.args.circuit.now c.loop-gate.circuit c.add_block.new.circuit (block_of c.args.aux c.args.lines c.args.extra) c.args.gates.now c.loop-gate.gate-index c.gate-item.result h c.gate-item.is
    c.loop-gate.invariant c.in_ok-add_block.ensures
