use Rattle.std.proofs.Common.{◌≡◌, ◌≤◌, ◌+◌, ◌-◌, length, take, Ok}
use Rattle.rv_qasm.specs.inside.Reached.{steps}
use Rattle.rv_qasm.proofs.reached.Reached.take.Given as goal

abbrev pub invariant-loop-at : goal.invariant-loop-at
invariant-loop-at l = record {
  within : l.at ≤ length l.piece;
  line : l.self.begun.line ≤ l.initial.self.begun.line + l.at;
  so_far : steps l.initial.self (take l.at l.piece) ≡ Ok l.self;
}

abbrev pub decreases-loop-at : goal.decreases-loop-at
decreases-loop-at l = length l.piece - l.at
