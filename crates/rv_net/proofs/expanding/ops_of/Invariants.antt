use Rattle.std.proofs.Common.{◌≡◌, take}
use Rattle.rv_net.specs.Network.{network_of}
use Rattle.rv_net.proofs.expanding.ops_of.Given as goal

abbrev pub invariant-loop-gate : goal.invariant-loop-gate
invariant-loop-gate l = l.ops.items ≡ network_of (take l.gate-index l.gates)
