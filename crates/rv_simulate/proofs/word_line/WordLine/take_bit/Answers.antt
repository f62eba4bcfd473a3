use Rattle.std.proofs.Common.{sym, arith}
use Rattle.rv_simulate.proofs.inside.Taking.{bit_put, bit_refused}
use Rattle.rv_simulate.proofs.word_line.WordLine.take_bit.Goals as goal

pub returns-then-self-eq-MOST_LINES : goal.returns-then-self-eq-MOST_LINES
returns-then-self-eq-MOST_LINES c = let s = c.self.inside in rw (sym c.self.view_is) (bit_refused s.number s.count s.bits s.in_comment s.is_wrong c.args.bit c.if-self-eq-MOST_LINES.true)

pub returns : goal.returns
returns c = let s = c.self.inside in rw (sym c.self.view_is) (bit_put s.number s.count s.bits c.from.result s.in_comment s.is_wrong c.args.bit c.self.invariant.1 (omega arith) c.from.ensures)
