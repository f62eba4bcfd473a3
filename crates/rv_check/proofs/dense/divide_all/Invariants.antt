use Rattle.std.proofs.Common.{◌≡◌, ◌++◌, map, take, drop}
use Rattle.rv_check.specs.Reduced.{quotient}
use Rattle.rv_check.proofs.dense.divide_all.Given as goal

abbrev pub invariant-loop-value : goal.invariant-loop-value
invariant-loop-value l = l.values ≡ map quotient (take l.value-index l.initial.values) ++ drop l.value-index l.initial.values
