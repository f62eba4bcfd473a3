use Rattle.std.proofs.Common.{◌≡◌, length}
use Rattle.rv_sums.proofs.inside.Begins.{AreWeaker}
use Rattle.rv_sums.proofs.held.without.Given as goal

abbrev pub invariant-loop-line : goal.invariant-loop-line
invariant-loop-line l = record {
  count : length l.made.items ≡ l.line;
  weaker : AreWeaker l.marks l.made.items;
}
