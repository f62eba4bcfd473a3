use Rattle.rv_cube.specs.inside.Slotted.{IsLeast, IsOnly, IsEqual, IsNeighbour}
use Rattle.rv_cube.proofs.inside.Partners.{least_neighbour, lesser_both}
use Rattle.rv_cube.proofs.slots.Slots.lesser_neighbour.Goals as goal

pub returns : goal.returns
returns c =
    let n = c.args.self.now.inputs in
    let s = c.args.self.now.cubes in
    lesser_both (IsOnly (IsEqual s c.args.a c.args.b c.turned-one.result)) (IsOnly (IsEqual s c.args.a c.args.b c.turned_twice-other.result))
    (IsLeast (IsNeighbour n s c.args.a c.args.b c.args.cube c.args.p)) c.args.best c.lesser_equal-best.result c.lesser_equal.result
    (λ o q. least_neighbour n s c.args.a c.args.b c.args.cube c.turned-one.result c.turned_twice-other.result c.args.p o q
    c.requires.within c.requires.valid c.requires.own c.turned-one.ensures c.turned_twice-other.ensures)
    c.lesser_equal-best.ensures c.lesser_equal.ensures
