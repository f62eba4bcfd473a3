use Rattle.std.proofs.Common.{take}
use Rattle.std.specs.List.{flat_map}
use Rattle.rv_io.specs.Writer.{Adds}
use Rattle.rv_curve.specs.Report.{row_text}
use Rattle.rv_curve.proofs.report.put_rows.Given as goal

abbrev pub invariant-loop-row : goal.invariant-loop-row
invariant-loop-row g l =
    Adds l.initial.writer (g.O.Sink.view l.initial.out) (flat_map (row_text l.search l.goal l.seed) (take l.row-index l.rows)) l.writer (g.O.Sink.view l.out)
