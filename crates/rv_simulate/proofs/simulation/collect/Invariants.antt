use Rattle.std.proofs.Common.{◌≡◌, ◌≤◌, ◌+◌, ◌-◌, length, take, Ok, All}
use Rattle.rv_simulate.specs.inside.Answering.{Collects}
use Rattle.rv_simulate.proofs.simulation.collect.Given as goal

-- the bytes of the piece before this one were read
abbrev pub invariant-loop-at : goal.invariant-loop-at
invariant-loop-at g l = record {
  within : l.at ≤ length l.piece;
  counted : l.line.number ≤ l.initial.line.number + l.at;
  fit : All (λ word. length word ≡ length l.circuit.names) l.words;
  collects : Collects l.circuit l.all (take l.at l.piece) l.initial.line l.initial.writer (g.O.Sink.view l.initial.out) (Ok tt) l.line l.words l.writer (g.O.Sink.view l.out);
}

abbrev pub decreases-loop-at : goal.decreases-loop-at
decreases-loop-at g l = length l.piece - l.at
