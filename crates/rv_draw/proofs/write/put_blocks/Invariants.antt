use Rattle.std.specs.List.{flat_map, range_with_len}
use Rattle.rv_io.specs.Writer.{Adds}
use Rattle.rv_text.specs.Spelled.{spelled}
use Rattle.rv_draw.specs.Drawing.{block_rows}
use Rattle.rv_draw.proofs.write.put_blocks.Given as goal

abbrev pub invariant-loop-block : goal.invariant-loop-block
invariant-loop-block g l = Adds l.initial.writer (g.O.Sink.view l.initial.sink) (spelled (flat_map (block_rows g.G.Drawn.draws l.per_block l.circuit l.gates) (range_with_len 0 l.block))) l.writer (g.O.Sink.view l.sink)
