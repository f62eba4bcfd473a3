use Rattle.std.proofs.Common.{◌≡◌}
use Rattle.std.specs.List.{flat_map, range_with_len}
use Rattle.rv_io.specs.Writer.{Adds}
use Rattle.rv_picture.specs.Cut.{text_of_lines}
use Rattle.rv_picture.specs.Svg.{mark_lines, mark_on}
use Rattle.rv_picture.specs.inside.Within.{symbol_within}
use Rattle.rv_picture.proofs.svg.put_marks.Given as goal

abbrev pub invariant-loop-line : goal.invariant-loop-line
invariant-loop-line g l = record {
  symbol : l.symbol ≡ symbol_within (g.G.Drawn.draws l.gate) l.lines l.line;
  above : l.from_above ≡ (mark_on (g.G.Drawn.draws l.gate) l.lines l.line).from_above;
  adds : Adds l.initial.writer (g.O.Sink.view l.initial.sink) (text_of_lines (flat_map (mark_lines (g.G.Drawn.draws l.gate) l.lines) (range_with_len 0 l.line))) l.writer (g.O.Sink.view l.sink);
}
