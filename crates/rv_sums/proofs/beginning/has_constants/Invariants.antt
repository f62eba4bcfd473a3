use Rattle.rv_sums.proofs.inside.Begins.{HasFirst}
use Rattle.rv_sums.proofs.beginning.has_constants.Given as goal

abbrev pub invariant-loop-line : goal.invariant-loop-line
invariant-loop-line l = HasFirst l.marks l.line l.word
