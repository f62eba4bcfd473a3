use Rattle.std.proofs.Common.{◌≡◌, ◌≤◌, Bool, List, length, take}
use Rattle.rv_sums.specs.Finding.{HasConstants}
use Rattle.rv_sums.specs.inside.State.{word_at}
use Rattle.rv_sums.proofs.path_sum.PathSum.start.Given as goal

abbrev pub invariant-loop-line : goal.invariant-loop-line
invariant-loop-line l = record {
  count : length l.sums.items ≡ l.line;
  ends : (x v : List Bool) → HasConstants l.marks x → l.line ≤ length x → word_at l.sums.items x v ≡ take l.line x;
}
