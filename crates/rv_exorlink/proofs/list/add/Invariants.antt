use Rattle.std.proofs.Common.{length}
use Rattle.rv_exorlink.specs.Lists.{AreAlike}
use Rattle.rv_exorlink.proofs.list.add.Given as goal

abbrev pub invariant-loop-more : goal.invariant-loop-more
invariant-loop-more l = AreAlike l.inputs l.fn.cube l.fn.cubes.items l.sum l.cubes.items

abbrev pub decreases-loop-more : goal.decreases-loop-more
decreases-loop-more l = length l.cubes.items
