use Rattle.std.proofs.Common.{◌≡◌, ◌≤◌, ◌<◌, ◌-◌, true, [], length, get_or, drop, slice_range}
use Rattle.rv_text.specs.Tokens.{tokens_from, inside}
use Rattle.rv_real.proofs.words.plain_end.Given as goal

abbrev pub invariant-loop-i : goal.invariant-loop-i
invariant-loop-i l = record {
  order : l.start ≤ l.i;
  within : l.i ≤ length l.line;
  same : tokens_from true [] (inside (slice_range l.line l.start l.i)) (drop l.i l.line) ≡ tokens_from true [] (inside []) (drop l.start l.line);
  first : l.start < l.i → 35 < get_or l.line l.start 0;
}

abbrev pub decreases-loop-i : goal.decreases-loop-i
decreases-loop-i l = length l.line - l.i
