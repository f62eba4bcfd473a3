use Rattle.std.proofs.Common.{ap, ◌∙◌}
use Rattle.rv_gate.proofs.Ranges.{pushed_more}
use Rattle.rv_perm.specs.Perm.{preimage_of}
use Rattle.rv_dbs.specs.Walk.{other, next}
use Rattle.rv_dbs.proofs.least.steps.Goals as goal

pub loop-x-preserved : goal.loop-x-preserved
unfolding next
loop-x-preserved c =
    pushed_more (next c.args.k c.args.perm.now.images) c.loop-x.x c.other-in-loop-x.result c.loop-x.steps.items c.push.new.self.items c.in_ok-push.ensures.items c.loop-x.invariant
    (c.other-in-loop-x.ensures ∙ ap (other c.args.k) (c.inverse_get.ensures.value ∙ ap (preimage_of c.args.perm.now.images) (c.other.ensures ∙ ap (other c.args.k) c.get.ensures)))
