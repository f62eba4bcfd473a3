use Rattle.rv_cube.specs.inside.Slots.{key_of, led_to}
use Rattle.rv_cube.proofs.inside.Marking.{filtered_noted}
use Rattle.rv_cube.proofs.places.Places.note.Goals as goal

pub invariant_of-self : goal.invariant_of-self
invariant_of-self c =
    filtered_noted c.self.inside.filter c.add.new.self (led_to c.self.inside.slots.entries) (led_to c.insert.new.self.entries) (key_of c.args.cube) c.args.i c.self.invariant
    c.add.ensures (c.in-Ok.ensures.updates.0)
