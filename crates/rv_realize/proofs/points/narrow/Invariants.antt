use Rattle.std.specs.Prelude.{All}
use Rattle.rv_realize.specs.Realized.{AreOnMore, IsPoint}
use Rattle.rv_realize.proofs.points.narrow.Given as goal

abbrev pub invariant-loop-lines : goal.invariant-loop-lines
invariant-loop-lines l = record {
  realized : All (IsPoint l.fn.pla l.fn.options.lines) l.points.items;
  rising : AreOnMore l.points.items;
}
