use Rattle.std.proofs.Common.{◌≡◌, ◌++◌, map, take, drop}
use Rattle.rv_net.specs.Cyclotomic.{nought}
use Rattle.rv_check.proofs.dense.erase.Given as goal

abbrev pub invariant-loop-value : goal.invariant-loop-value
invariant-loop-value l = l.values ≡ map (λ u. nought) (take l.value-index l.initial.values) ++ drop l.value-index l.initial.values
