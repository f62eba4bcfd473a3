use Rattle.rv_turns.specs.Joined.{IsJoiningOf}
use Rattle.rv_turns.proofs.joining.join_rounds.Given as goal

abbrev pub invariant-loop-number : goal.invariant-loop-number
invariant-loop-number l = IsJoiningOf l.net l.joined
