use Rattle.std.proofs.Common.{◌≡◌, drop}
use Rattle.rv_optimal.specs.inside.Alike.{least_on, walk}
use Rattle.rv_optimal.proofs.alike.least_renamed.Given as goal

abbrev pub invariant-loop-line : goal.invariant-loop-line
invariant-loop-line l = least_on walk l.fn.key l.fn.key ≡ least_on (drop l.line-index walk) l.least l.renamed
