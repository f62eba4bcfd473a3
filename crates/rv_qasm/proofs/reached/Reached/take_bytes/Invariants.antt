use Rattle.std.proofs.Common.{◌≡◌, ◌≤◌, ◌+◌, take, Ok}
use Rattle.rv_qasm.specs.inside.Reached.{steps}
use Rattle.rv_qasm.proofs.reached.Reached.take_bytes.Given as goal

abbrev pub invariant-loop-at : goal.invariant-loop-at
invariant-loop-at l = record {
  line : l.self.begun.line ≤ l.initial.self.begun.line + l.at;
  so_far : steps l.initial.self (take l.at l.bytes) ≡ Ok l.self;
}
