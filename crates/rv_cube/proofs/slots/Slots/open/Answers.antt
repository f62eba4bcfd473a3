use Rattle.rv_cube.specs.inside.Slots.{led_to}
use Rattle.rv_cube.proofs.inside.Noting.{slotted_open}
use Rattle.rv_cube.proofs.slots.Slots.open.Goals as goal

pub invariant_of-self-2 : goal.invariant_of-self-2
invariant_of-self-2 c =
    rw c.in_ok-push.ensures.items (slotted_open (led_to c.self.inside.places) c.self.inside.asked c.self.inside.inputs c.self.inside.cubes.items c.self.invariant)
