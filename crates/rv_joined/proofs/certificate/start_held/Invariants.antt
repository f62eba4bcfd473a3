use Rattle.rv_joined.specs.inside.Brings.{AreStart}
use Rattle.rv_joined.proofs.certificate.start_held.Given as goal

abbrev pub invariant-loop-line : goal.invariant-loop-line
invariant-loop-line l = AreStart l.setup l.line l.held.items
