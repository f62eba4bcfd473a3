use Rattle.std.proofs.Common.{arith}
use Rattle.rv_sums.proofs.inside.Ends.{same_denotes}
use Rattle.rv_sums.proofs.same.is_same.Goals as goal

pub returns : goal.returns
returns c on =
    let state = c.in_ok-state.state in
    same_denotes c.args.marks.now state.facts.sums.items c.args.lines c.args.ops.now c.args.flips.now state.sum c.in_ok-state.ensures
    (c.in_ok-own.ensures on)
    (c.is_nothing.ensures c.if-not-is_nothing.false) (omega (arith, c.count_h-roots.ensures))
