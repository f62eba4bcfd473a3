use Rattle.std.proofs.Common.{◌≡◌, length}
use Rattle.rv_compare.proofs.inside.Drawn.{AreOperands}
use Rattle.rv_compare.proofs.drawn.node_edge.Given as goal

abbrev pub invariant-loop-i : goal.invariant-loop-i
invariant-loop-i l = record {
  count : length l.own ≡ length l.operands;
  each : AreOperands l.operands l.signals l.own l.i;
}
