use Rattle.std.proofs.Common.{◌≡◌, ◌≤◌, ◌-◌, Bool, [], length, drop, slice_range}
use Rattle.rv_text.specs.Tokens.{tokens_from, inside}
use Rattle.rv_text.proofs.tokens.plain_end.Given as goal

abbrev pub invariant-loop-i : goal.invariant-loop-i
invariant-loop-i l = record {
  order : l.start ≤ l.i;
  within : l.i ≤ length l.line;
  same : (quotes : Bool) → tokens_from quotes l.blanks (inside (slice_range l.line l.start l.i)) (drop l.i l.line) ≡ tokens_from quotes l.blanks (inside []) (drop l.start l.line);
}

abbrev pub decreases-loop-i : goal.decreases-loop-i
decreases-loop-i l = length l.line - l.i
