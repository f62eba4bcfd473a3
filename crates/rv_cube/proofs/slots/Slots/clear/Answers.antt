use Rattle.std.proofs.Common.{◌<◌, length, ◌∙◌, ap, arith}
use Rattle.std.proofs.lemmas.List.{get_or_default}
use Rattle.rv_cube.specs.Reduction.{no_cube}
use Rattle.rv_cube.specs.inside.Slots.{led_to}
use Rattle.rv_cube.specs.inside.Slotted.{Slotted}
use Rattle.rv_cube.proofs.inside.Noting.{slotted_clear}
use Rattle.rv_cube.proofs.slots.Slots.clear.Goals as goal

pub invariant_of-self : goal.invariant_of-self
invariant_of-self c =
    let slots = c.self.inside.cubes.items in
    let len = ap (λ (s : Slotted). length s.cubes) c.self.view_is in
    let l : c.args.i < length c.self.inside.cubes.items = omega arith in
    slotted_clear (led_to c.self.inside.places) (led_to c.forget.new.self) c.self.inside.asked c.self.inside.inputs slots c.args.i c.index.result.now
    c.self.invariant l (c.index.ensures ∙ get_or_default slots c.args.i c.index.result.now no_cube l) c.forget.ensures
