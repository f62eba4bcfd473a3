use Rattle.std.proofs.Common.{[]}
use Rattle.rv_sums.proofs.inside.Taken.{moves_none, moves_then}
use Rattle.rv_sums.proofs.taking.Following.take_some.Goals as goal

pub rounds-init : goal.rounds-init
rounds-init c = moves_none c.args.flips.now c.args.self.now

pub returns-then-not-taken : goal.returns-then-not-taken
returns-then-not-taken c =
    moves_then [] c.args.flips.now c.args.self.now c.rounds.self c.take_one.new.self c.rounds.invariant c.in_ok-taken.ensures

pub rounds-preserved : goal.rounds-preserved
rounds-preserved c =
    moves_then [] c.args.flips.now c.args.self.now c.rounds.self c.take_one.new.self c.rounds.invariant c.in_ok-taken.ensures
