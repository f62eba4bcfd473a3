use Rattle.std.proofs.Common.{arith}
use Rattle.rv_exorlink.proofs.Steps.{alike_self, alike_joined, alike_same, added}
use Rattle.rv_exorlink.proofs.list.add.Goals as goal

pub loop-more-init : goal.loop-more-init
loop-more-init c = alike_self c.args.inputs c.args.cube c.args.cubes.now.items

pub loop-more-preserved : goal.loop-more-preserved
loop-more-preserved c =
    alike_joined c.args.inputs c.args.cube c.args.cubes.now.items c.loop-more.sum c.loop-more.cubes.items c.in-Some.more
    c.join.new.cubes.items
    c.loop-more.invariant c.in-Some.ensures

pub returns : goal.returns
returns c =
    added c.args.inputs c.args.cube c.args.cubes.now.items c.loop-more.sum c.join.new.cubes.items c.push.new.self.items
    (alike_same c.args.inputs c.args.cube c.args.cubes.now.items c.loop-more.sum c.loop-more.cubes.items
    c.join.new.cubes.items c.loop-more.invariant c.in_default.ensures)
    (λ e. absurd (omega arith)) c.in_ok-push.ensures.items
