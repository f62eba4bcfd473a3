use Rattle.std.proofs.Common.{[]}
use Rattle.rv_sums.proofs.inside.Taken.{moves_none, moves_then}
use Rattle.rv_sums.proofs.taking.Following.look_ahead.Goals as goal

pub ahead-init : goal.ahead-init
ahead-init c = (moves_none c.args.flips.now c.args.self.now, c.in_ok-trial.ensures c.args.flips.now)

pub ahead-preserved : goal.ahead-preserved
ahead-preserved c =
    let flips = c.args.flips.now in
    let first = c.args.self.now in
    let trial = moves_then [] flips first c.ahead.trial c.take_first.new.self c.ahead.invariant.1 c.in_ok-taken.ensures in
    (c.in_ok-least.ensures flips first c.ahead.invariant.0 trial, trial)

pub returns-then-not-taken : goal.returns-then-not-taken
returns-then-not-taken c = c.ahead.invariant.0

pub returns : goal.returns
returns c = c.ahead.invariant.0
