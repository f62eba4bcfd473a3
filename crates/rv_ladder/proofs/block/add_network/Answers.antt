use Rattle.std.proofs.Common.{◌<◌, length, ap, arith}
use Rattle.rv_gate.proofs.Greatest.{greatest_at}
use Rattle.rv_mct.specs.Blocks.{wish}
use Rattle.rv_ladder.proofs.block.add_network.Goals as goal

pub add_gate-requires-clause-enough : goal.add_gate-requires-clause-enough
add_gate-requires-clause-enough c =
    let h : c.loop-gate.gate-index < length c.args.gates.now = omega arith in
    let g = greatest_at (wish c.args.aux c.args.lines) c.args.gates.now c.loop-gate.gate-index c.gate-item.result h in
    let e = ap (wish c.args.aux c.args.lines) c.gate-item.is in
    omega (arith, c.requires.enough)
