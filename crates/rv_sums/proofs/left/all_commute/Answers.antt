use Rattle.std.proofs.Common.{take, sym, arith}
use Rattle.std.proofs.lemmas.List.{take_all}
use Rattle.std.proofs.lemmas.List.Elements.{All-more, All-same}
use Rattle.rv_gate.specs.Commuting.{Commutes}
use Rattle.rv_sums.proofs.left.all_commute.Goals as goal

pub loop-other-preserved : goal.loop-other-preserved
loop-other-preserved c =
    let here = c.commutes.ensures.agree c.if-not-commutes.false in
    All-more (λ other. Commutes other c.args.gate) c.args.passed.now c.loop-other.other-index c.other-item.result c.loop-other-test.true
    c.loop-other.invariant (rw (← c.other-item.is) here)

pub returns : goal.returns
returns c _ =
    let past = c.loop-other-test.false in
    All-same (λ other. Commutes other c.args.gate) c.args.passed.now (take c.loop-other.other-index c.args.passed.now)
    (sym (take_all _ _ (omega arith))) c.loop-other.invariant
