-- What contracts see of the shape that a gate holds.
use Rattle.rv_gate.specs.declared.gate.Shape.{Shape}
use Rattle.rv_gate.specs.declared.gate.Shape.TheVariants.{Flip, Swap, Peres}
use Rattle.rv_gate.specs.declared.gate.Held.{Held}
use Rattle.rv_gate.specs.declared.gate.Held.TheVariants as held

abbrev pub shape_of : Held → Shape
shape_of (held.Flip target care want) = Flip care want target
shape_of (held.Swap a b care want) = Swap care want a b
shape_of (held.Peres a b c) = Peres a b c

abbrev pub held_of : Shape → Held
held_of (Flip care want target) = held.Flip target care want
held_of (Swap care want a b) = held.Swap a b care want
held_of (Peres a b c) = held.Peres a b c
