use Rattle.std.proofs.Common.{◌≡◌, ◌+◌, ◌-◌, ◌<◌, sym, ap, length, refl, arith}
use Rattle.std.proofs.lemmas.Option.{slice_get_read}
use Rattle.rv_diagram.proofs.Joins.{branch_at, number_at}
use Rattle.rv_diagram.proofs.diagram.Diagram.node.Goals as goal

pub returns-clause-branch : goal.returns-clause-branch
returns-clause-branch c =
    let nodes = c.self.inside.nodes.items in
    let place : c.args.number ≡ (c.args.number - 1) + 1 = omega (arith, c.requires.some) in
    let lt : c.args.number - 1 < length c.self.inside.nodes.items = omega (arith, c.requires.some, c.requires.within, ap length c.self.view_is) in
    branch_at nodes c.self.inside.known.items (c.args.number - 1) c.index.result.now c.args.number c.self.invariant place
    (slice_get_read nodes (length nodes) (c.args.number - 1) c.index.result.now refl lt c.index.ensures)

pub returns-clause-number : goal.returns-clause-number
returns-clause-number c =
    let nodes = c.self.inside.nodes.items in
    let place : c.args.number ≡ (c.args.number - 1) + 1 = omega (arith, c.requires.some) in
    let lt : c.args.number - 1 < length c.self.inside.nodes.items = omega (arith, c.requires.some, c.requires.within, ap length c.self.view_is) in
    rw (sym c.self.view_is)
    (number_at nodes c.self.inside.known.items (c.args.number - 1) c.index.result.now c.args.number c.self.invariant place
    (slice_get_read nodes (length nodes) (c.args.number - 1) c.index.result.now refl lt c.index.ensures) lt)
