use Rattle.rv_resynth.proofs.inside.Blocks.{SameTo}
use Rattle.rv_resynth.proofs.block.same_rows.Given as goal

abbrev pub invariant-loop-line : goal.invariant-loop-line
invariant-loop-line l = SameTo l.a l.b l.line
