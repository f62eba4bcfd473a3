use Rattle.std.proofs.Common.{sym}
use Rattle.rv_simulate.proofs.inside.Taking.{bytes_taken}
use Rattle.rv_simulate.proofs.word_line.WordLine.take_bits.Goals as goal

pub returns-clause-new : goal.returns-clause-new
returns-clause-new c =
    let s = c.self.inside in
    let made = c.with_bits-bits in
    rw (sym c.self.view_is, c.from.ensures)
    (bytes_taken s.number s.count s.bits made.result.0 made.result.1 s.in_comment s.is_wrong c.args.bytes.now c.if-self.false made.ensures.within made.ensures.few made.ensures.bits made.ensures.word)
