use Rattle.rv_diagram.proofs.diagram.Diagram.+copy.Given as goal

abbrev pub decreases-copy : goal.decreases-copy
decreases-copy l = l.edge.node
