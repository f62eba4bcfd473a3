use Rattle.std.proofs.Common.{get_or, take, length, ap, sym, arith, length-append}
use Rattle.rv_route.specs.declared.moves.Move.{Move}
use Rattle.rv_route.specs.inside.Standing.{swaps_by, swaps_of}
use Rattle.rv_route.proofs.inside.Moving.{swaps_by-next, swaps_by_none, length-swaps_of}
use Rattle.rv_route.proofs.moves.swap_count.Goals as goal

pub loop-a-init : goal.loop-a-init
loop-a-init c = record { so_far = sym (ap length swaps_by_none); few = omega arith }

pub loop-a-preserved : goal.loop-a-preserved
loop-a-preserved c =
    let d : Move = record { from = 0; to = 0 } in
    let m : Move = get_or c.args.moves.now c.loop-a.a-index d in
    let i = c.loop-a.invariant in
    let so_far = i.so_far in
    let few = i.few in
    let within = c.requires.within c.loop-a.a-index d c.loop-a-test.true in
    let next = ap length (swaps_by-next c.args.moves.now c.loop-a.a-index d c.loop-a-test.true) in
    let both = length-append (swaps_by (take c.loop-a.a-index c.args.moves.now)) (swaps_of m.from m.to) in
    let one = length-swaps_of m.from m.to in
    let by = c.abs_diff.ensures in
    let is = c.from-count.ensures in
    record { so_far = omega (arith, within); few = omega (arith, within) }
