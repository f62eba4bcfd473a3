use Rattle.rv_compare.proofs.inside.Rows.{AreKept}
use Rattle.rv_compare.proofs.block.keep_outputs.Given as goal

abbrev pub invariant-loop-line : goal.invariant-loop-line
invariant-loop-line l = AreKept l.garbage l.initial.rows l.rows l.line l.kept
