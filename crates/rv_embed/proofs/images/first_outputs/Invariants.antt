use Rattle.std.proofs.Common.{◌≡◌, ◌+◌, ◌-◌, ◌*◌, ◌^◌, map, get_or}
use Rattle.std.specs.List.{range_with_len}
use Rattle.rv_embed.specs.Classes.{rank}
use Rattle.rv_embed.proofs.images.first_outputs.Given as goal

abbrev pub invariant-loop-x : goal.invariant-loop-x
invariant-loop-x l = l.numbers.items ≡ map (λ x. get_or l.outputs x 0 * 2 ^ (l.lines - l.outs) + rank l.outputs x) (range_with_len 0 l.x)
