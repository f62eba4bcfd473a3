use Rattle.std.proofs.Common.{◌≡◌, ◌≤◌, ◌-◌, ◌+◌, [], true, length, drop}
use Rattle.rv_text.specs.Tokens.{tokens_of}
use Rattle.rv_real.specs.Rules.{in_order}
use Rattle.rv_real.specs.Header.{with_name}
use Rattle.rv_real.proofs.labels.push_names.Given as goal

abbrev pub invariant-loop-found : goal.invariant-loop-found
invariant-loop-found l =
    (l.at ≤ length l.line) × (length l.names + length (tokens_of true [] (drop l.at l.line)) ≡ length (tokens_of true [] (drop l.from l.line)))
    × (in_order with_name l.names (tokens_of true [] (drop l.at l.line)) ≡ in_order with_name [] (tokens_of true [] (drop l.from l.line)))

abbrev pub decreases-loop-found : goal.decreases-loop-found
decreases-loop-found l = length l.line - l.at
