use Rattle.rv_turns.specs.Joined.{IsJoiningOf}
use Rattle.rv_turns.proofs.joining.join_turns.Given as goal

abbrev pub invariant-loop-last : goal.invariant-loop-last
invariant-loop-last l = IsJoiningOf l.net l.joined
