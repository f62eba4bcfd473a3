use Rattle.std.proofs.Common.{◌≡◌}
use Rattle.rv_tbs.specs.Synthesis.{after, is_inward, sides}
use Rattle.rv_tbs.proofs.both.both_gates.Given as goal

abbrev pub invariant-loop-k : goal.invariant-loop-k
invariant-loop-k l =
    (l.table.lines ≡ l.perm.lines)
    × (sides l.table.images l.ins.items l.outs.items ≡ after is_inward l.perm.lines l.perm.images l.k)
