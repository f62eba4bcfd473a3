use Rattle.rv_resynth.proofs.inside.Splitting.{splits_pass, splits_take}
use Rattle.rv_resynth.proofs.window.add.Goals as goal

pub returns-in_ok-push : goal.returns-in_ok-push
returns-in_ok-push c n before fits s =
    let commute = rw c.deref.ensures.value at (c.all_commute.ensures c.if-all_commute.true) in
    rw c.in_ok-push.ensures.items
    (splits_take n before c.args.window.now.gates.items c.args.window.now.passed.items c.args.gate c.recall_invariant.ensures fits commute s)

pub returns-in_ok-push-2 : goal.returns-in_ok-push-2
returns-in_ok-push-2 c n before fits s =
    rw c.in_ok-push-2.ensures.items
    (splits_pass n before c.args.window.now.gates.items c.args.window.now.passed.items c.args.gate c.recall_invariant.ensures fits s)
