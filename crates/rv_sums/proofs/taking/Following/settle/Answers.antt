use Rattle.std.proofs.Common.{[]}
use Rattle.rv_sums.proofs.inside.Taken.{moves_none, moves_then}
use Rattle.rv_sums.proofs.taking.Following.settle.Goals as goal

pub rounds-init : goal.rounds-init
rounds-init c = moves_none c.args.flips.now c.args.self.now

pub returns-then-not-ahead : goal.returns-then-not-ahead
returns-then-not-ahead c =
    let flips = c.args.flips.now in
    moves_then [] flips c.args.self.now c.rounds.self c.look_ahead.new.self c.rounds.invariant
    (moves_then [] flips c.rounds.self c.take_some.new.self c.look_ahead.new.self c.in_ok-some.ensures c.in_ok-ahead.ensures)

pub rounds-preserved : goal.rounds-preserved
rounds-preserved c =
    let flips = c.args.flips.now in
    moves_then [] flips c.args.self.now c.rounds.self c.look_ahead.new.self c.rounds.invariant
    (moves_then [] flips c.rounds.self c.take_some.new.self c.look_ahead.new.self c.in_ok-some.ensures c.in_ok-ahead.ensures)
