use Rattle.rv_cube.specs.inside.Watching.{IsLinkBeside}
use Rattle.rv_cube.proofs.inside.DueRows.{marks_more}
use Rattle.rv_cube.proofs.watch.link_across.Goals as goal

pub loop-q-preserved : goal.loop-q-preserved
loop-q-preserved c =
    marks_more (λ q row. IsLinkBeside c.args.slots.now.cubes c.args.e c.args.cube q row) c.loop-q.q c.args.rows.now c.loop-q.rows c.link_beside.new.rows
    c.loop-q.invariant c.link_beside.ensures
