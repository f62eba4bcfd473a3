use Rattle.rv_joined.specs.inside.Shorter.{AreFlips}
use Rattle.rv_joined.proofs.shorter.staying.Given as goal

abbrev pub invariant-loop-k : goal.invariant-loop-k
invariant-loop-k l = AreFlips l.fn.setup l.left.items
