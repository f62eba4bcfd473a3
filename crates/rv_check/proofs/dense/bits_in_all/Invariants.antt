use Rattle.std.proofs.Common.{◌≡◌, take}
use Rattle.rv_check.specs.inside.Dense.{bits_in_all}
use Rattle.rv_check.proofs.dense.bits_in_all.Given as goal

abbrev pub invariant-loop-value : goal.invariant-loop-value
invariant-loop-value l = l.bits ≡ bits_in_all (take l.value-index l.values)
