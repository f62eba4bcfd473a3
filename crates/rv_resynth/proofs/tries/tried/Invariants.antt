use Rattle.rv_resynth.specs.inside.Windows.{Replaces}
use Rattle.rv_resynth.proofs.tries.tried.Given as goal

abbrev pub invariant-loop : goal.invariant-loop
invariant-loop l = Replaces l.lines l.initial.gates.items l.gates.items
