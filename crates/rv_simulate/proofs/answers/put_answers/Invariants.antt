use Rattle.std.proofs.Common.{◌≡◌, ◌≤◌, length, take}
use Rattle.std.specs.List.{flat_map}
use Rattle.rv_simulate.specs.Simulation.{answer_text}
use Rattle.rv_simulate.specs.declared.answers.TheConstants.{ROOM}
use Rattle.rv_simulate.specs.inside.Answering.{ArePartGiven}
use Rattle.rv_simulate.proofs.answers.put_answers.Given as goal

-- the answers to the words before this one were given, but for those that stand in the text
abbrev pub invariant-loop-word : goal.invariant-loop-word
invariant-loop-word g l = record {
  whole : length l.text ≡ ROOM;
  within : l.len ≤ ROOM;
  answers : ArePartGiven (flat_map (answer_text l.circuit l.all) (take l.word-index l.word-items)) l.initial.writer (g.O.Sink.view l.initial.out) (take l.len l.text) l.writer (g.O.Sink.view l.out);
}
