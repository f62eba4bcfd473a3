use Rattle.rv_sums.proofs.inside.States.{put_none, put_more, put_all}
use Rattle.rv_sums.proofs.shorter.put_all.Goals as goal

pub loop-sum-init : goal.loop-sum-init
loop-sum-init c = put_none c.args.path c.args.with.now c.args.sums.now c.new-made.result.items c.new-made.ensures.items

pub loop-sum-preserved : goal.loop-sum-preserved
loop-sum-preserved c =
    put_more c.args.path c.args.with.now c.args.sums.now c.loop-sum.made.items c.push.new.self.items c.loop-sum.sum-index
    c.sum-item.result c.in_ok-next.next c.loop-sum-test.true c.sum-item.is c.in_ok-push.ensures.items c.in_ok-next.ensures
    c.loop-sum.invariant

pub returns : goal.returns
returns c = put_all c.args.path c.args.with.now c.args.sums.now c.loop-sum.made.items c.loop-sum.sum-index c.loop-sum-test.false c.loop-sum.invariant
