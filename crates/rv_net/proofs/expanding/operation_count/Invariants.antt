use Rattle.std.proofs.Common.{◌≡◌, ◌≤◌, ◌*◌, take}
use Rattle.rv_net.specs.Network.{operation_count}
use Rattle.rv_net.proofs.expanding.operation_count.Given as goal

abbrev pub invariant-loop-gate : goal.invariant-loop-gate
invariant-loop-gate l = (l.count ≡ operation_count (take l.gate-index l.gates)) × (l.count ≤ 143 * l.gate-index)
