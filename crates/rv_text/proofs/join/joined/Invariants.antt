use Rattle.std.proofs.Common.{◌≡◌, ◌≤◌, ◌-◌, ◌++◌, length, drop}
use Rattle.rv_text.specs.Tokens.{tokens_of, joined}
use Rattle.rv_text.proofs.join.joined.Given as goal

abbrev pub invariant-loop-found : goal.invariant-loop-found
invariant-loop-found l =
    (l.at ≤ length l.line) × (l.bytes.items ++ joined (tokens_of l.quotes l.blanks (drop l.at l.line)) ≡ joined (tokens_of l.quotes l.blanks (drop l.from l.line)))

abbrev pub decreases-loop-found : goal.decreases-loop-found
decreases-loop-found l = length l.line - l.at
