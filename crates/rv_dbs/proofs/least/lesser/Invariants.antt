use Rattle.std.proofs.Common.{◌≡◌, min, get_or, map}
use Rattle.std.specs.List.{range_with_len}
use Rattle.rv_dbs.proofs.least.lesser.Given as goal

abbrev pub invariant-loop-x : goal.invariant-loop-x
invariant-loop-x l = l.lesser.items ≡ map (λ x. min (get_or l.least x 0) (get_or l.least (get_or l.jumps x 0) 0)) (range_with_len 0 l.x)
