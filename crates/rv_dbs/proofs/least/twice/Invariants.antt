use Rattle.std.proofs.Common.{◌≡◌, get_or, map}
use Rattle.std.specs.List.{range_with_len}
use Rattle.rv_dbs.proofs.least.twice.Given as goal

abbrev pub invariant-loop-x : goal.invariant-loop-x
invariant-loop-x l = l.twice.items ≡ map (λ x. get_or l.jumps (get_or l.jumps x 0) 0) (range_with_len 0 l.x)
