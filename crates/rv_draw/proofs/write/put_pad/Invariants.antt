use Rattle.std.specs.Prelude.{replicate}
use Rattle.std.specs.List.{flat_map}
use Rattle.rv_io.specs.Writer.{Adds}
use Rattle.rv_draw.specs.Symbols.{glyph}
use Rattle.rv_draw.specs.declared.symbol.Symbol.TheVariants.{Wire}
use Rattle.rv_draw.proofs.write.put_pad.Given as goal

abbrev pub invariant-loop : goal.invariant-loop
invariant-loop g l = Adds l.initial.writer (g.O.Sink.view l.initial.sink) (flat_map glyph (replicate l.counter Wire)) l.writer (g.O.Sink.view l.sink)
