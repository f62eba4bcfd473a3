use Rattle.std.proofs.Common.{sym}
use Rattle.rv_cube.specs.inside.Slots.{key_of, led_to}
use Rattle.rv_cube.proofs.inside.Marking.{filtered_forgotten}
use Rattle.rv_cube.proofs.places.Places.forget.Goals as goal

pub invariant_of-self : goal.invariant_of-self
invariant_of-self c =
    filtered_forgotten c.self.inside.filter c.remove.new.self (led_to c.self.inside.slots.entries) (led_to c.swap_remove.new.self.entries) (key_of c.args.cube) c.in-Some.field-0 c.self.invariant
    (sym c.in-Some.ensures.value) c.remove.ensures (c.in-Some.ensures.updates.0)
