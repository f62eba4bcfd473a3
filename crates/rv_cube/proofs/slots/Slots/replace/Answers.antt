use Rattle.std.proofs.Common.{◌<◌, length, not, sym, ap, subst, arith, ne_eqb}
use Rattle.rv_pla.specs.Cube.{IsCube}
use Rattle.rv_pla.specs.declared.cube.TheConstants.{MOST_OUTPUTS}
use Rattle.rv_cube.specs.inside.Slots.{led_to}
use Rattle.rv_cube.specs.inside.Slotted.{Slotted, IsReplaced}
use Rattle.rv_cube.proofs.inside.Noting.{slotted_replace}
use Rattle.rv_cube.proofs.slots.Slots.replace.Goals as goal

pub invariant_of-self-2 : goal.invariant_of-self-2
invariant_of-self-2 c =
    let r = c.requires in
    let v = c.self.view_is in
    let len = ap (λ (s : Slotted). length s.cubes) c.self.view_is in
    let within = c.requires.within in
    let l : c.args.b < length c.self.inside.cubes.items = omega arith in
    slotted_replace (led_to c.self.inside.places) (led_to c.note.new.self) c.self.inside.asked c.self.inside.inputs c.self.inside.cubes.items c.args.a c.args.b c.args.cube
    c.self.invariant r.order l (ap not (ne_eqb c.args.cube.outs 0 c.if-cube-eq0.false))
    (subst (λ (s : Slotted). IsCube s.inputs MOST_OUTPUTS c.args.cube) (sym v) r.valid)
    (subst (λ (s : Slotted). IsReplaced s.cubes c.args.a c.args.b c.args.cube) (sym v) r.only) c.in_ok-note.ensures.ok
