use Rattle.rv_cube.specs.declared.distance.Turns.TheVariants.{Once, Twice}
use Rattle.rv_cube.specs.inside.Moved.{ArePlaces}
use Rattle.rv_cube.proofs.slots.neighbours_of.Given as goal

abbrev pub invariant-loop-input : goal.invariant-loop-input
invariant-loop-input l = ArePlaces l.input l.cube Once l.near.one_places × ArePlaces l.input l.cube Twice l.near.other_places
