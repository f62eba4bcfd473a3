use Rattle.rv_sums.proofs.inside.States.{lack_none, lack_more, lack_all}
use Rattle.rv_sums.proofs.free.all_lack.Goals as goal

pub loop-sum-init : goal.loop-sum-init
loop-sum-init c = lack_none c.args.path c.args.sums.now

pub loop-sum-preserved : goal.loop-sum-preserved
loop-sum-preserved c =
    lack_more c.args.path c.args.sums.now c.loop-sum.sum-index c.sum-item.result c.loop-sum-test.true c.sum-item.is
    (c.has_path.ensures c.if-has_path.false) c.loop-sum.invariant

pub returns : goal.returns
returns c on = lack_all c.args.path c.args.sums.now c.loop-sum.sum-index c.loop-sum-test.false c.loop-sum.invariant
