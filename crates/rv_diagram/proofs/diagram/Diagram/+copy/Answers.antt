use Rattle.rv_diagram.proofs.inside.Copying.{copies_on, copied_branch, copied_turned, copy_constant}
use Rattle.rv_diagram.proofs.diagram.Diagram.+copy.Goals as goal

pub returns-then-edge-eq0-clause-copy : goal.returns-then-edge-eq0-clause-copy
returns-then-edge-eq0-clause-copy t c = copy_constant c.args.old.now c.args.self.now c.args.edge c.if-edge-eq0.true

pub returns-clause-copies : goal.returns-clause-copies
returns-clause-copies t c =
    let old = c.args.old.now in
    let last = c.branch-self.new.self in
    c.put_copy.ensures old last (copies_on old c.copy-2.new.self last c.copy-2.new.copies c.in_ok-made.ensures.keeps c.in_ok-high.ensures.copies)
    (copied_branch old c.copy.new.self c.copy-2.new.self last c.args.edge c.in_ok-low.low c.in_ok-high.high c.in_ok-made.made c.node-node.result c.node-node.ensures.number
    c.in_ok-low.ensures.copy c.in_ok-high.ensures.keeps c.in_ok-high.ensures.copy c.in_ok-made.ensures.edge c.in_ok-made.ensures.value)

pub returns-clause-copy : goal.returns-clause-copy
returns-clause-copy t c =
    let old = c.args.old.now in
    let last = c.branch-self.new.self in
    rw c.turn.ensures
    (copied_turned old last c.args.edge c.in_ok-made.made
    (copied_branch old c.copy.new.self c.copy-2.new.self last c.args.edge c.in_ok-low.low c.in_ok-high.high c.in_ok-made.made c.node-node.result c.node-node.ensures.number
    c.in_ok-low.ensures.copy c.in_ok-high.ensures.keeps c.in_ok-high.ensures.copy c.in_ok-made.ensures.edge c.in_ok-made.ensures.value))
