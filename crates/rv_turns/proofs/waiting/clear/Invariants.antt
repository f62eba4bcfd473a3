use Rattle.rv_turns.proofs.inside.Loops.{IsCleared}
use Rattle.rv_turns.proofs.waiting.clear.Given as goal

abbrev pub invariant-loop-line : goal.invariant-loop-line
invariant-loop-line l = IsCleared l.initial.words.items l.words.items l.line l.bit
