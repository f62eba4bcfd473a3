use Rattle.std.proofs.Common.{arith}
use Rattle.rv_mct.proofs.Walks.{free_all, free_below}
use Rattle.rv_mct.proofs.lines.free_set.Goals as goal

pub returns-then-lines-eq-MOST_LINES : goal.returns-then-lines-eq-MOST_LINES
returns-then-lines-eq-MOST_LINES c = rw c.place.ensures (free_all c.args.care c.args.target c.args.lines (omega arith) c.requires.target c.if-lines-eq-MOST_LINES.true)

pub returns : goal.returns
returns c = rw (c.place.ensures, c.place-2.ensures) (free_below c.args.care c.args.target c.args.lines (omega arith) c.requires.target c.requires.few)
