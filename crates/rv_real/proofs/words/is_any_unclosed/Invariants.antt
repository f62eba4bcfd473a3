use Rattle.std.proofs.Common.{◌≡◌, ◌≤◌, ◌-◌, [], true, length, drop}
use Rattle.std.specs.List.{list_any}
use Rattle.rv_text.specs.Tokens.{tokens_of}
use Rattle.rv_real.specs.Reading.{is_unclosed}
use Rattle.rv_real.proofs.words.is_any_unclosed.Given as goal

abbrev pub invariant-loop-found : goal.invariant-loop-found
invariant-loop-found l =
    (l.at ≤ length l.line) × (list_any is_unclosed (tokens_of true [] (drop l.at l.line)) ≡ list_any is_unclosed (tokens_of true [] l.line))

abbrev pub decreases-loop-found : goal.decreases-loop-found
decreases-loop-found l = length l.line - l.at
