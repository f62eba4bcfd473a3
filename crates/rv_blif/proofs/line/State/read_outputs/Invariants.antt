use Rattle.std.proofs.Common.{◌≡◌, ◌≤◌, ◌-◌, false, [], length, drop}
use Rattle.rv_text.specs.Tokens.{tokens_of}
use Rattle.rv_blif.specs.Given.{outputs_given}
use Rattle.rv_blif.proofs.line.State.read_outputs.Given as goal

abbrev pub invariant-loop-word : goal.invariant-loop-word
invariant-loop-word l = record {
  within : l.at ≤ length l.line;
  gives : outputs_given l.number l.self (tokens_of false [] (drop l.at l.line))
      ≡ outputs_given l.number l.initial.self (tokens_of false [] (drop l.from l.line));
}

abbrev pub decreases-loop-word : goal.decreases-loop-word
decreases-loop-word l = length l.line - l.at
