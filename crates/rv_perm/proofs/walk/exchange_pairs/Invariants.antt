use Rattle.std.proofs.Common.{◌-◌, ◌^◌}
use Rattle.std.specs.Prelude.{bit_or}
use Rattle.rv_perm.specs.inside.Places.{AreInverse}
use Rattle.rv_perm.proofs.inside.Visited.{Visited}
use Rattle.rv_perm.proofs.walk.exchange_pairs.Given as goal

abbrev pub invariant-loop-upper : goal.invariant-loop-upper
invariant-loop-upper l =
    Visited l.lines (bit_or l.care (2 ^ l.k)) l.negative (2 ^ l.k) l.upper l.initial.table l.table × AreInverse l.table l.inverse

abbrev pub decreases-loop-upper : goal.decreases-loop-upper
decreases-loop-upper l = l.end - l.upper
