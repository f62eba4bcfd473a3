use Rattle.std.proofs.Common.{◌≡◌, ◌++◌, take}
use Rattle.std.specs.List.{flat_map}
use Rattle.rv_ladder.specs.Ladder.{gate_net}
use Rattle.rv_ladder.proofs.block.add_network.Given as goal

abbrev pub invariant-loop-gate : goal.invariant-loop-gate
invariant-loop-gate l = l.ops.items ≡ l.initial.ops.items ++ flat_map (gate_net l.aux l.lines l.extra) (take l.gate-index l.gates)
