use Rattle.rv_resynth.proofs.inside.Blocks.{PartsTo}
use Rattle.rv_resynth.proofs.block.same_parts.Given as goal

abbrev pub invariant-loop-part : goal.invariant-loop-part
invariant-loop-part l = PartsTo l.a l.b l.part
