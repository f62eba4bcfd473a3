use Rattle.rv_cube.specs.inside.Idle.{free_at}
use Rattle.rv_gate.proofs.Ranges.{pushed_more}
use Rattle.rv_cube.proofs.idle.free_sets.Goals as goal

pub loop-input-preserved : goal.loop-input-preserved
loop-input-preserved c =
    pushed_more (free_at c.args.pla.now) c.loop-input.input c.free_at.result c.loop-input.sets.items
    c.push.new.self.items c.in_ok-push.ensures.items c.loop-input.invariant c.free_at.ensures
