use Rattle.std.proofs.Common.{Bool, subst, arith}
use Rattle.std.specs.Prelude.{IsTrue}
use Rattle.rv_sums.proofs.inside.Begins.{first_all, first_more}
use Rattle.rv_sums.proofs.beginning.has_constants.Goals as goal

pub loop-line-init : goal.loop-line-init
loop-line-init c line lt = absurd (omega arith)

pub loop-line-preserved : goal.loop-line-preserved
loop-line-preserved c =
    first_more c.args.marks.now c.loop-line.line c.mark_of-mark.result c.bit-bit.result c.args.word c.mark_of-mark.ensures c.bit-bit.ensures
    (subst (λ (b : Bool). IsTrue b) c.may_begin.ensures c.if-not-may_begin.false) c.loop-line.invariant

pub returns : goal.returns
returns c on = first_all c.args.marks.now c.loop-line.line c.args.word
    (omega (arith, c.len-line-end.ensures, c.loop-line-test.false)) c.loop-line.invariant
