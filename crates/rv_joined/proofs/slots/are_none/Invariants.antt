use Rattle.rv_joined.proofs.inside.Halves.{HalfSoFar}
use Rattle.rv_joined.proofs.slots.are_none.Given as goal

abbrev pub invariant-loop-slot : goal.invariant-loop-slot
invariant-loop-slot l = HalfSoFar l.slots l.slot-index l.half
