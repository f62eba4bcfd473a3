use Rattle.rv_compute.proofs.inside.Summing.{pass_same, pass_changed}
use Rattle.rv_compute.proofs.held.passes_on.Goals as goal
use Rattle.std.proofs.Common.{refl}

pub returns-then-pass : goal.returns-then-pass
returns-then-pass c on =
    pass_changed c.args.node.now c.args.pass.operand _ c.args.pass.changed refl refl c.if-pass.true (c.is_sum.ensures on)

pub returns-else-pass : goal.returns-else-pass
returns-else-pass c on =
    pass_same c.args.node.now c.args.pass.operand c.args.pass.changed c.if-pass.false (c.is_sum-else-pass.ensures on)
