use Rattle.std.proofs.Common.{[], refl}
use Rattle.rv_sums.proofs.inside.Taken.{moves_kept, moves_then}
use Rattle.rv_sums.proofs.taking.Following.take_one.Goals as goal

pub loop-at-init : goal.loop-at-init
loop-at-init c = moves_kept c.args.flips.now c.args.self.now _ refl refl c.in_ok-fill.ensures

pub loop-at-preserved : goal.loop-at-preserved
loop-at-preserved c =
    let flips = c.args.flips.now in
    moves_then [] flips c.args.self.now c.loop-at.self c.take.new.self c.loop-at.invariant (c.in_ok-taken.ensures flips)

pub returns-then-taken : goal.returns-then-taken
returns-then-taken c =
    let flips = c.args.flips.now in
    moves_then [] flips c.args.self.now c.loop-at.self c.take.new.self c.loop-at.invariant (c.in_ok-taken.ensures flips)
