use Rattle.rv_compare.proofs.inside.Drawn.{AreInputs}
use Rattle.rv_compare.proofs.drawn.input_edges.Given as goal

abbrev pub invariant-loop-input : goal.invariant-loop-input
invariant-loop-input l = AreInputs l.initial.diagram l.diagram l.signals.items l.input
