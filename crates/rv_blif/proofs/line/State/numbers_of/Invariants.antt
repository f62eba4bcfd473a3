use Rattle.std.proofs.Common.{◌≡◌, ◌≤◌, ◌-◌, false, [], length, drop, None}
use Rattle.rv_text.specs.Tokens.{tokens_of}
use Rattle.rv_blif.specs.Given.{numbered}
use Rattle.rv_blif.proofs.line.State.numbers_of.Given as goal

abbrev pub invariant-loop-word : goal.invariant-loop-word
invariant-loop-word l = record {
  within : l.at ≤ length l.line;
  closed : l.self.last ≡ None;
  gives : numbered l.self l.numbers.items (tokens_of false [] (drop l.at l.line))
      ≡ numbered l.initial.self [] (tokens_of false [] (drop l.from l.line));
}

abbrev pub decreases-loop-word : goal.decreases-loop-word
decreases-loop-word l = length l.line - l.at
