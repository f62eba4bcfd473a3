use Rattle.std.proofs.Common.{◌≡◌, ◌≤◌, ◌-◌, ℕ, true, List, [], length, drop, slice_range}
use Rattle.rv_text.specs.Tokens.{tokens_from, quoting}
use Rattle.rv_text.proofs.tokens.quoted_end.Given as goal

abbrev pub invariant-loop-i : goal.invariant-loop-i
invariant-loop-i l = record {
  order : l.start ≤ l.i;
  within : l.i ≤ length l.line;
  same : (blanks : List ℕ) → tokens_from true blanks (quoting (slice_range l.line l.start l.i)) (drop l.i l.line) ≡ tokens_from true blanks (quoting []) (drop l.start l.line);
}

abbrev pub decreases-loop-i : goal.decreases-loop-i
decreases-loop-i l = length l.line - l.i
