-- The fields of a cascade that its making sets.
use Rattle.std.proofs.Common.{Bool, List}
use Rattle.rv_gate.specs.Circuit.{Cascade}
use Rattle.rv_gate.specs.declared.circuit.Mark.{Mark}
use Rattle.rv_gate.specs.declared.gate.Shape.{Shape}

abbrev pub with_constants : Cascade → List Mark → Cascade
with_constants c marks = record c { constants = marks }

abbrev pub with_garbage : Cascade → List Bool → Cascade
with_garbage c garbage = record c { garbage = garbage }

abbrev pub with_gates : Cascade → List Shape → Cascade
with_gates c gates = record c { gates = gates }
