use Rattle.std.specs.Prelude.{All}
use Rattle.rv_compute.specs.Points.{AreOnMore, IsPoint}
use Rattle.rv_compute.proofs.points.narrow.Given as goal

abbrev pub invariant-loop-lines : goal.invariant-loop-lines
invariant-loop-lines l = record {
  computed : All (IsPoint l.fn.logic l.fn.options.lines) l.points.items;
  rising : AreOnMore l.points.items;
}
