use Rattle.std.proofs.Common.{◌≡◌, []}
use Rattle.rv_tbs.specs.Synthesis.{after, never, sides}
use Rattle.rv_tbs.proofs.outward.outward_gates.Given as goal

abbrev pub invariant-loop-k : goal.invariant-loop-k
invariant-loop-k l =
    (l.table.lines ≡ l.perm.lines)
    × (sides l.table.images [] l.gates.items ≡ after never l.perm.lines l.perm.images l.k)
