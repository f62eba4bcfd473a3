use Rattle.rv_diagram.proofs.Joins.{number_at, below_length}
use Rattle.rv_diagram.proofs.diagram.Diagram.has_at.Goals as goal

pub returns : goal.returns
returns c = λ t.
    let at = c.stands_at.ensures t in
    number_at c.args.self.now c.self.inside.known.items at.0 c.args.node c.args.number (rw c.self.view_is at c.self.invariant) at.1 at.2
    (below_length c.args.self.now at.0 c.args.node at.2)
