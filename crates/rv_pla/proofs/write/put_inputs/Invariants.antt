use Rattle.std.proofs.Common.{map}
use Rattle.std.specs.List.{range_with_len}
use Rattle.rv_io.specs.Writer.{Adds}
use Rattle.rv_pla.specs.Cube.{symbol}
use Rattle.rv_pla.specs.Text.{input_character}
use Rattle.rv_pla.proofs.write.put_inputs.Given as goal

abbrev pub invariant-loop-input : goal.invariant-loop-input
invariant-loop-input g l = Adds l.initial.writer (g.O.Sink.view l.initial.sink) (map (λ input. input_character (symbol l.cube input)) (range_with_len 0 l.input)) l.writer (g.O.Sink.view l.sink)
