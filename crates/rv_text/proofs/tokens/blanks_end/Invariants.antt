use Rattle.std.proofs.Common.{◌≡◌, ◌≤◌, ◌<◌, ◌-◌, ℕ, Bool, true, length, get_or, drop}
use Rattle.rv_text.specs.Tokens.{is_blank, tokens_of}
use Rattle.rv_text.proofs.tokens.blanks_end.Given as goal

abbrev pub invariant-loop-i : goal.invariant-loop-i
invariant-loop-i l = record {
  order : l.from ≤ l.i;
  within : l.i ≤ length l.line;
  blank : (k : ℕ) → l.from ≤ k → k < l.i → is_blank l.blanks (get_or l.line k 0) ≡ true;
  same : (quotes : Bool) → tokens_of quotes l.blanks (drop l.i l.line) ≡ tokens_of quotes l.blanks (drop l.from l.line);
}

abbrev pub decreases-loop-i : goal.decreases-loop-i
decreases-loop-i l = length l.line - l.i
