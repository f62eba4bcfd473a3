use Rattle.std.proofs.Common.{◌≡◌, ◌^◌, ◌*◌, ◌%◌, ap, length, arith}
use Rattle.std.proofs.lemmas.Nat.{one_shl}
use Rattle.rv_compute.proofs.inside.Summing.{is_sum_all}
use Rattle.rv_compute.proofs.sum.is_sum.Goals as goal

pub returns : goal.returns
returns c on =
    let few = c.operands.ensures.valid.few in
    let size : length c.operands.result.now ≡ length c.args.node.now.operands = ap length c.operands.ensures.value in
    let one : 1 * 2 ^ length c.operands.result.now % 2 ^ 32 ≡ 2 ^ length c.operands.result.now =
    one_shl (length c.operands.result.now) 32 (omega arith) in
    is_sum_all c.args.node.now (length c.operands.result.now) c.args.start c.args.products.now c.loop-set.set size
    (omega arith) c.loop-set.invariant
