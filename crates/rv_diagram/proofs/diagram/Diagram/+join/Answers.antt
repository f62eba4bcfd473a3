use Rattle.rv_diagram.proofs.Joins.{turned_joined, split_joined}
use Rattle.rv_diagram.proofs.diagram.Diagram.+join.Goals as goal

pub returns-in-Some-recalled-clause-joined : goal.returns-in-Some-recalled-clause-joined
returns-in-Some-recalled-clause-joined _ c =
    turned_joined c.args.self.now c.args.self.now c.args.operation c.args.f c.args.g c.in-Some-recalled.edge _ c.normal-pair.result c.normal-pair.ensures c.in-Some-recalled.ensures c.turn.ensures

pub returns-clause-joined : goal.returns-clause-joined
returns-clause-joined _ c =
    let start = c.args.self.now in
    let pair = c.normal-pair.result in
    let normal = c.normal-pair.ensures in
    let f = normal.within_f start c.requires.f c.requires.g in
    let g = normal.within_g start c.requires.f c.requires.g in
    rw c.remember.ensures
    (turned_joined start c.branch-self.new.self c.args.operation c.args.f c.args.g c.in_ok-edge.edge _ pair normal
    (split_joined start c.join.new.self c.join-2.new.self c.branch-self.new.self c.args.operation pair.f pair.g c.in_ok-low.low c.in_ok-high.high c.in_ok-edge.edge c.split-split.result f g
    (rw c.count_step.ensures at c.split-split.ensures)
    (rw c.count_step.ensures at c.in_ok-low.ensures.keeps) (rw c.count_step.ensures at c.in_ok-low.ensures.joined)
    c.in_ok-high.ensures.keeps c.in_ok-high.ensures.joined
    c.in_ok-edge.ensures.keeps c.in_ok-edge.ensures.edge c.in_ok-edge.ensures.value)
    c.turn-2.ensures)
