use Rattle.std.proofs.Common.{◌-◌, length}
use Rattle.rv_reader.proofs.inside.FeedLemmas.{IsFeeding}
use Rattle.rv_reader.proofs.reader.take_all.Given as goal

abbrev pub invariant-loop-at : goal.invariant-loop-at
invariant-loop-at g l = IsFeeding g.S.Format.rules l.initial.lines l.initial.state l.lines l.state g.S.Format.size l.piece l.at

abbrev pub decreases-loop-at : goal.decreases-loop-at
decreases-loop-at g l = length l.piece - l.at
