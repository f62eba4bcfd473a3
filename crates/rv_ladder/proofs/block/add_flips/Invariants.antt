use Rattle.std.proofs.Common.{◌≡◌, ◌++◌, take}
use Rattle.std.specs.List.{flat_map}
use Rattle.rv_ladder.specs.Ladder.{flip_net}
use Rattle.rv_ladder.proofs.block.add_flips.Given as goal

abbrev pub invariant-loop-flip : goal.invariant-loop-flip
invariant-loop-flip l = l.ops.items ≡ l.initial.ops.items ++ flat_map (flip_net l.aux l.lines l.extra) (take l.flip-index l.flips)
