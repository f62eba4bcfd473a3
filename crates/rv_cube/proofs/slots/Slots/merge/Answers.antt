use Rattle.std.proofs.Common.{length, ap, arith}
use Rattle.rv_cube.specs.inside.Slotted.{Slotted}
use Rattle.rv_cube.proofs.inside.Twins.{twin_is}
use Rattle.rv_cube.proofs.slots.Slots.merge.Goals as goal

pub index-requires : goal.index-requires
index-requires c =
    let t = twin_is c.args.self.now.cubes c.args.i c.args.j c.args.cube c.requires.found c.requires.empty in
    let l = t.within in
    let len = ap (λ (s : Slotted). length s.cubes) c.self.view_is in
    omega arith
