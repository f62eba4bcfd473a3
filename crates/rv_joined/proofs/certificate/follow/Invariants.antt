use Rattle.rv_joined.specs.inside.Brings.{FollowedSoFar}
use Rattle.rv_joined.proofs.certificate.follow.Given as goal

abbrev pub invariant-loop-item : goal.invariant-loop-item
invariant-loop-item l = FollowedSoFar l.setup l.terms l.fn.state l.flips l.next l.state
