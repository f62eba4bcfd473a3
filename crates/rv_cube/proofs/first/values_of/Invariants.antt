use Rattle.std.proofs.Common.{◌≡◌, map}
use Rattle.std.specs.List.{range_with_len}
use Rattle.rv_gate.specs.Word.{word_of}
use Rattle.rv_cube.specs.First.{outputs_at}
use Rattle.rv_cube.proofs.first.values_of.Given as goal

abbrev pub invariant-loop-input : goal.invariant-loop-input
invariant-loop-input l = l.values.items ≡ map (λ x. outputs_at l.pla (word_of l.pla.inputs x)) (range_with_len 0 l.input)
