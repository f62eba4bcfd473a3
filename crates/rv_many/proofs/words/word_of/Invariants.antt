use Rattle.rv_many.specs.Column.{column}
use Rattle.rv_many.proofs.inside.Numbers.{NumberTo}
use Rattle.rv_many.proofs.words.word_of.Given as goal

abbrev pub invariant-loop-row : goal.invariant-loop-row
invariant-loop-row l = NumberTo (column l.rows l.place) l.row-index l.number
