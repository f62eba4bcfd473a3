use Rattle.std.proofs.Common.{◌∙◌, ap}
use Rattle.rv_cube.specs.inside.Slots.{slot_of, led_to}
use Rattle.rv_cube.specs.inside.Slotted.{Slotted}
use Rattle.rv_cube.proofs.inside.Keys.{slot_within}
use Rattle.rv_cube.proofs.inside.Noting.{slot_of_noted}
use Rattle.rv_cube.proofs.slots.Slots.find_at.Goals as goal

pub returns-clause-within : goal.returns-clause-within
returns-clause-within c =
    slot_within c.args.self.now.cubes c.args.cube c.find_at.result
    (c.find_at.ensures
    ∙ slot_of_noted (led_to c.self.inside.places) c.self.inside.cubes.items c.args.cube c.self.invariant.noted
    ∙ ap (λ (s : Slotted). slot_of s.cubes c.args.cube) c.self.view_is)
