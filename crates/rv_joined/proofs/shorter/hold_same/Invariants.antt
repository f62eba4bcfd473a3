use Rattle.rv_joined.proofs.inside.Fewer.{SameBelow}
use Rattle.rv_joined.proofs.shorter.hold_same.Given as goal

abbrev pub invariant-loop-line : goal.invariant-loop-line
invariant-loop-line l = SameBelow l.a l.b l.line
