use Rattle.rv_compare.proofs.inside.Drawn.{ArePicked}
use Rattle.rv_compare.proofs.drawn.picked.Given as goal

abbrev pub invariant-loop-output : goal.invariant-loop-output
invariant-loop-output l = ArePicked l.diagram l.signals l.outputs l.edges.items l.output-index
