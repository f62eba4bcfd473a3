use Rattle.std.proofs.Common.{◌<◌, length, refl, arith}
use Rattle.rv_cube.specs.Reduction.{at}
use Rattle.rv_cube.proofs.inside.SettledList.{fills_more}
use Rattle.rv_cube.proofs.reduce.fill.Goals as goal

pub loop-i-preserved : goal.loop-i-preserved
loop-i-preserved c =
    let lt : c.loop-i.i < length c.args.cubes.now = omega arith in
    fills_more c.args.slots.now.inputs c.args.cubes.now c.loop-i.i c.len-slot.result (at c.args.cubes.now c.loop-i.i) c.loop-i.slots c.open.new.self c.settle.new.self c.requires.valid lt
    c.loop-i.invariant c.len-slot.ensures.valid c.len-slot.ensures.keyed refl c.len-slot.ensures.value c.in_ok-open.ensures.ok c.in_ok-settle.ensures.ok
