use Rattle.std.proofs.Common.{arith}
use Rattle.rv_sums.proofs.inside.Words.{bits_all, bits_more}
use Rattle.rv_sums.proofs.apart.bits_of.Goals as goal

pub loop-line-preserved : goal.loop-line-preserved
loop-line-preserved c =
    bits_more c.loop-line.bits.items c.push.new.self.items c.args.word c.loop-line.line c.bit.result
    (omega (arith, c.len-line-end.ensures, c.loop-line-test.true)) c.in_ok-push.ensures.items c.bit.ensures c.loop-line.invariant

pub returns : goal.returns
returns c = bits_all c.loop-line.bits.items c.args.word c.loop-line.line (omega (arith, c.len-line-end.ensures, c.loop-line-test.false)) c.loop-line.invariant
