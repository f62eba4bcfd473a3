use Rattle.std.proofs.Common.{◌<◌, ◌≤◌, ℕ, List, length, arith}
use Rattle.rv_net.specs.declared.op.Op.{Op}
use Rattle.rv_net.specs.declared.op.Op.TheVariants.{X}
use Rattle.rv_paths.proofs.inside.Followed.{count-end, count-more}
use Rattle.rv_paths.proofs.following.count_h.Goals as goal

pub loop-op-preserved : goal.loop-op-preserved
loop-op-preserved c =
    let ops : List Op = c.args.ops.now in
    let k : ℕ = c.loop-op.op-index in
    let within : k < length ops = omega arith in
    let inv = c.loop-op.invariant in
    record {
      few = omega (arith, c.next_after-count.ensures.few, inv.few);
      sum = count-more ops k c.loop-op.count c.next_after-count.result (X 0) within c.next_after-count.ensures.next inv.sum;
    }

pub returns : goal.returns
returns c =
    let ops : List Op = c.args.ops.now in
    let k : ℕ = c.loop-op.op-index in
    let all : length ops ≤ k = omega arith in
    count-end ops k c.loop-op.count all c.loop-op.invariant.sum
