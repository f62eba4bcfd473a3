use Rattle.std.proofs.Common.{◌≡◌, ◌≤◌, ◌-◌, ◌+◌, false, length, drop}
use Rattle.rv_text.specs.Tokens.{tokens_of}
use Rattle.rv_perm.specs.Line.{separators}
use Rattle.rv_perm.specs.inside.Steps.{numbers_given}
use Rattle.rv_perm.proofs.line.State.read_numbers.Given as goal

abbrev pub invariant-loop-found : goal.invariant-loop-found
invariant-loop-found l =
    (l.at ≤ length l.line) × (l.self.count ≤ l.initial.self.count + l.at)
    × (numbers_given l.self (tokens_of false separators (drop l.at l.line)) ≡ numbers_given l.initial.self (tokens_of false separators l.line))

abbrev pub decreases-loop-found : goal.decreases-loop-found
decreases-loop-found l = length l.line - l.at
