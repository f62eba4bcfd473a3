use Rattle.std.proofs.Common.{◌≡◌, ◌≤◌, ◌+◌, ◌-◌, true, length}
use Rattle.rv_io.specs.Files.{Keeps}
use Rattle.rv_io.specs.Sink.{StaysUnflushed}
use Rattle.rv_text.specs.declared.lines.TheConstants.{MOST_BYTES}
use Rattle.rv_simulate.specs.Simulation.{answer_to}
use Rattle.rv_simulate.proofs.inside.Reading.{IsReading}
use Rattle.rv_simulate.proofs.simulation.simulate_words.Given as goal

-- no call failed, so many bytes were read as the place says, and the lines that ended in them were answered
abbrev pub invariant-loop-taken : goal.invariant-loop-taken
invariant-loop-taken g l =
    let old = g.F.Files.view l.fn.files in
    let now = g.F.Files.view l.files in
    record {
      keeps : Keeps old now;
      started : now.is_started ≡ true;
      uncounted : now.faults ≡ old.faults;
      most : l.most ≡ MOST_BYTES;
      size : length l.room ≡ 16384;
      limited : l.taken ≤ l.most;
      place : now.place ≡ l.taken;
      later : (g.O.Sink.view l.fn.out).faults ≤ (g.O.Sink.view l.out).faults;
      unflushed : StaysUnflushed (g.O.Sink.view l.fn.out) (g.O.Sink.view l.out);
      counted : l.line.number ≤ l.taken + 1;
      named : old.tells ≡ true → now.is_opened l.name ≡ true;
      reading : IsReading (answer_to l.circuit l.all) old l.name now.content (g.O.Sink.view l.fn.out) l.taken l.line (g.O.Sink.view l.out);
    }

abbrev pub decreases-loop-taken : goal.decreases-loop-taken
decreases-loop-taken g l = l.most - l.taken
