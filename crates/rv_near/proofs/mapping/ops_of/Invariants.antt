use Rattle.std.proofs.Common.{◌≡◌, take}
use Rattle.rv_near.specs.Near.{near_ops}
use Rattle.rv_near.proofs.mapping.ops_of.Given as goal

abbrev pub invariant-loop-gate : goal.invariant-loop-gate
invariant-loop-gate l = l.ops.items ≡ near_ops (take l.gate-index l.gates)
