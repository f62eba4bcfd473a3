use Rattle.std.specs.List.{flat_map, range_with_len}
use Rattle.rv_io.specs.Writer.{Adds}
use Rattle.rv_picture.specs.Cut.{text_of_lines}
use Rattle.rv_picture.specs.Svg.{block_lines}
use Rattle.rv_picture.proofs.svg.put_blocks.Given as goal

abbrev pub invariant-loop-block : goal.invariant-loop-block
invariant-loop-block g l =
    Adds l.initial.writer (g.O.Sink.view l.initial.sink) (text_of_lines (flat_map (block_lines g.G.Drawn.draws g.G.Titled.title l.per_block l.lines l.gates) (range_with_len 0 l.block))) l.writer (g.O.Sink.view l.sink)
