use Rattle.rv_diagram.proofs.inside.Copying.{still_on}
use Rattle.rv_diagram.proofs.diagram.Diagram.collect.Goals as goal

pub returns-clause-these : goal.returns-clause-these
returns-clause-these c =
    rw c.set_full.ensures
    (still_on c.args.self.now c.copy_all.new.self c.copy_all-2.new.self c.args.these.now c.copy_all.new.edges
    (rw c.emptied.ensures.kept at c.in_ok-copy_all.ensures.edges) c.in_ok-copy_all-2.ensures.keeps)
