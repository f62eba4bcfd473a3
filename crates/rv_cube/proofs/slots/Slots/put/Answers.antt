use Rattle.std.proofs.Common.{◌<◌, length, sym, ◌∙◌, ap, subst, arith}
use Rattle.rv_pla.specs.Cube.{IsCube}
use Rattle.rv_pla.specs.declared.cube.TheConstants.{MOST_OUTPUTS}
use Rattle.rv_cube.specs.inside.Slots.{full, slot_of, led_to}
use Rattle.rv_cube.specs.inside.Slotted.{Slotted}
use Rattle.rv_cube.proofs.inside.Noting.{slotted_put}
use Rattle.rv_cube.proofs.slots.Slots.put.Goals as goal

pub invariant_of-self-2 : goal.invariant_of-self-2
invariant_of-self-2 c =
    let r = c.requires in
    let v = c.self.view_is in
    let len = ap (λ (s : Slotted). length s.cubes) c.self.view_is in
    let within = c.requires.within in
    let l : c.args.i < length c.self.inside.cubes.items = omega arith in
    slotted_put (led_to c.self.inside.places) (led_to c.note.new.self) c.self.inside.asked c.self.inside.inputs c.self.inside.cubes.items c.args.i c.args.cube
    c.self.invariant l (ap (λ (s : Slotted). full s.cubes c.args.i) v ∙ r.empty) r.some
    (subst (λ (s : Slotted). IsCube s.inputs MOST_OUTPUTS c.args.cube) (sym v) r.valid)
    (ap (λ (s : Slotted). slot_of s.cubes c.args.cube) v ∙ r.alone) c.in_ok-note.ensures.ok
