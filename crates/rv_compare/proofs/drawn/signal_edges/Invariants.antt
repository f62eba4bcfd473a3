use Rattle.rv_compare.proofs.inside.Drawn.{AreSignals}
use Rattle.rv_compare.proofs.drawn.signal_edges.Given as goal

abbrev pub invariant-loop-k : goal.invariant-loop-k
invariant-loop-k l = AreSignals l.diagram l.inputs l.nodes l.signals.items l.k
