use Rattle.std.proofs.Common.{◌≡◌, ◌++◌, map, take, drop}
use Rattle.rv_check.specs.inside.Dense.{halved_by}
use Rattle.rv_check.proofs.dense.halve_all.Given as goal

abbrev pub invariant-loop-value : goal.invariant-loop-value
invariant-loop-value l = l.values ≡ map (halved_by l.fn.times) (take l.value-index l.initial.values) ++ drop l.value-index l.initial.values
