use Rattle.std.proofs.Common.{take}
use Rattle.rv_joined.specs.inside.Shorter.{EndsAs}
use Rattle.rv_joined.proofs.shorter.held_after.Given as goal

abbrev pub invariant-loop-k : goal.invariant-loop-k
invariant-loop-k l = EndsAs l.fn.setup l.terms (take l.k l.flips) l.held.items
