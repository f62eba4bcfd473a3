use Rattle.std.proofs.Common.{◌+◌, sym, ap}
use Rattle.rv_diagram.proofs.Joins.{diagram_push, keeps_if, number_push}
use Rattle.rv_diagram.proofs.diagram.Diagram.add.Goals as goal
use Rattle.rv_diagram.proofs.diagram.Diagram.add.Goals.{in-Ok, in-Err}

pub invariant_of-self : goal.invariant_of-self
invariant_of-self c =
    diagram_push c.self.inside.nodes.items c.push.new.self.items c.args.node c.self.inside.known.items _ c.self.invariant
    (rw c.self.view_is (record { input = c.requires.input; low = c.requires.low; high = c.requires.high })) c.push.ensures.items

pub returns-clause-keeps : goal.returns-clause-keeps
returns-clause-keeps c = rw (sym c.self.view_is) (keeps_if c.self.inside.nodes.items c.push.new.self.items c.args.node _ c.push.ensures.items)

pub returns-clause-number : goal.returns-clause-number
returns-clause-number c = elim c.match-push.branch [
  | in-Ok w ↦
      rw w.result-is
      (number_push c.self.inside.nodes.items c.push.new.self.items c.args.node (c.len-count.result + 1)
      (rw c.self.view_is (record { input = c.requires.input; low = c.requires.low; high = c.requires.high }))
      (ap (λ n. n + 1) (rw c.self.view_is c.len-count.ensures)) w.in-Ok.ensures.items)
  | in-Err w ↦ rw w.result-is tt
]
