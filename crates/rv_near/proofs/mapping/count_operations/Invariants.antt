use Rattle.std.proofs.Common.{◌≡◌, ◌≤◌, ◌*◌, length, take}
use Rattle.rv_near.specs.Near.{near_ops}
use Rattle.rv_near.proofs.mapping.count_operations.Given as goal

abbrev pub invariant-loop-gate : goal.invariant-loop-gate
invariant-loop-gate l = (l.count ≡ length (near_ops (take l.gate-index l.gates))) × (l.count ≤ 21 * l.gate-index)
