use Rattle.std.proofs.Common.{map}
use Rattle.std.specs.List.{range_with_len}
use Rattle.rv_io.specs.Writer.{Adds}
use Rattle.rv_gate.specs.Word.{has}
use Rattle.rv_text.specs.Bytes.{bit_byte}
use Rattle.rv_pla.proofs.write.put_outputs.Given as goal

abbrev pub invariant-loop-output : goal.invariant-loop-output
invariant-loop-output g l = Adds l.initial.writer (g.O.Sink.view l.initial.sink) (map (λ output. bit_byte (has l.cube.outs output)) (range_with_len 0 l.output)) l.writer (g.O.Sink.view l.sink)
