use Rattle.rv_dbs.specs.Walk.{next}
use Rattle.rv_dbs.proofs.inside.Jumps.{IsTurn}
use Rattle.rv_dbs.proofs.least.least_words.Given as goal

abbrev pub invariant-loop-turn : goal.invariant-loop-turn
invariant-loop-turn l = IsTurn l.perm.lines (next l.k l.perm.images) l.turn l.least.items l.jumps.items
