use Rattle.std.proofs.Common.{◌≡◌, ◌≤◌, ◌-◌, false, [], length, drop}
use Rattle.rv_text.specs.Tokens.{tokens_of}
use Rattle.rv_blif.specs.Line.{is_any_cut}
use Rattle.rv_blif.proofs.line.is_any_cut.Given as goal

abbrev pub invariant-loop-word : goal.invariant-loop-word
invariant-loop-word l = record {
  within : l.at ≤ length l.line;
  same : is_any_cut (tokens_of false [] (drop l.at l.line)) ≡ is_any_cut (tokens_of false [] l.line);
}

abbrev pub decreases-loop-word : goal.decreases-loop-word
decreases-loop-word l = length l.line - l.at
