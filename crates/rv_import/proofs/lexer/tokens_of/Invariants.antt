use Rattle.std.proofs.Common.{◌≡◌, ◌≤◌, ◌++◌, ◌-◌, drop, length}
use Rattle.rv_import.specs.Lexer.{tokens_after, tokens_of}
use Rattle.rv_import.specs.Statement.{bytes_of}
use Rattle.rv_import.proofs.lexer.tokens_of.Given as goal

abbrev pub invariant-loop-at : goal.invariant-loop-at
invariant-loop-at l =
    (tokens_of l.text ≡ bytes_of l.tokens.items ++ tokens_after 0 (drop l.at l.text))
    × (l.at ≤ length l.text)

abbrev pub decreases-loop-at : goal.decreases-loop-at
decreases-loop-at l = length l.text - l.at
