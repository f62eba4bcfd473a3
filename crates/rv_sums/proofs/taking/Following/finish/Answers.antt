use Rattle.std.proofs.Common.{[]}
use Rattle.rv_sums.proofs.inside.Taken.{moves_none, moves_then}
use Rattle.rv_sums.proofs.taking.Following.finish.Goals as goal

pub flips-init : goal.flips-init
flips-init c = moves_none c.args.flips.now c.args.self.now

pub flips-preserved : goal.flips-preserved
flips-preserved c =
    moves_then [] c.args.flips.now c.args.self.now c.flips.self c.take_first.new.self c.flips.invariant c.in_ok-take_first.ensures
