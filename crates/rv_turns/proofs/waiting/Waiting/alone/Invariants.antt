use Rattle.rv_turns.specs.inside.Slots.{slots_of}
use Rattle.rv_turns.proofs.inside.Loops.{AreAlone}
use Rattle.rv_turns.proofs.waiting.Waiting.alone.Given as goal

abbrev pub invariant-loop-other : goal.invariant-loop-other
invariant-loop-other l = AreAlone (slots_of l.self) l.line l.other l.slots l.left
