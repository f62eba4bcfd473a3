use Rattle.std.proofs.Common.{take}
use Rattle.std.specs.List.{flat_map}
use Rattle.rv_io.specs.Writer.{Adds}
use Rattle.rv_qasm.specs.Text.{statement}
use Rattle.rv_qasm.proofs.write.put_ops.Given as goal

abbrev pub invariant-loop-op : goal.invariant-loop-op
invariant-loop-op g l = Adds l.initial.writer (g.O.Sink.view l.initial.sink) (flat_map statement (take l.op-index l.ops)) l.writer (g.O.Sink.view l.sink)
