use Rattle.std.proofs.Common.{◌≡◌, ◌<◌, length}
use Rattle.rv_flow.specs.Generator.{shuffled}
use Rattle.rv_flow.proofs.generator.shuffle.Given as goal

abbrev pub invariant-loop-i : goal.invariant-loop-i
invariant-loop-i l = record {
  len : length l.numbers ≡ length l.initial.numbers;
  within : l.i < length l.numbers;
  state : l.state < 65537;
  rest : shuffled l.i l.state l.numbers ≡ shuffled l.initial.i l.initial.state l.initial.numbers;
}

abbrev pub decreases-loop-i : goal.decreases-loop-i
decreases-loop-i l = l.i
