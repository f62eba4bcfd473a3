use Rattle.rv_diagram.proofs.inside.Copying.{AreCopied}
use Rattle.rv_diagram.proofs.diagram.Diagram.copy_all.Given as goal

abbrev pub invariant-loop-place : goal.invariant-loop-place
invariant-loop-place l = AreCopied l.old l.initial.self l.self l.copies l.initial.edges l.edges l.place
