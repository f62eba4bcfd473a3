use Rattle.std.proofs.Common.{◌≡◌, ◌-◌, ◌*◌, ◌^◌, map}
use Rattle.std.specs.List.{range_with_len}
use Rattle.rv_embed.proofs.images.first_inputs.Given as goal

abbrev pub invariant-loop-x : goal.invariant-loop-x
invariant-loop-x l = l.numbers.items ≡ map (λ x. x * 2 ^ (l.lines - l.inputs)) (range_with_len 0 l.x)
