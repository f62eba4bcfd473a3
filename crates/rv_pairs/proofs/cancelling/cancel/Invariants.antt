use Rattle.std.proofs.Common.{◌≤◌, length, take}
use Rattle.rv_pairs.specs.inside.Standing.{Stands}
use Rattle.rv_pairs.proofs.inside.Rounds.{Goes}
use Rattle.rv_pairs.proofs.cancelling.cancel.Given as goal

abbrev pub invariant-loop-op : goal.invariant-loop-op
invariant-loop-op l = record {
  stands : Stands l.lines l.walk;
  short : length l.walk.cells.items ≤ l.op-index;
  goes : Goes l.net.lines (take l.op-index l.net.ops) l.walk.cells.items;
}
