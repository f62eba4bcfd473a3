use Rattle.rv_cube.proofs.inside.Watching.{beside_marks}
use Rattle.rv_cube.proofs.watch.link_beside.Goals as goal

pub returns : goal.returns
returns c =
    beside_marks c.args.slots.now.cubes c.args.e c.args.cube c.turned-one.result c.turned_twice-other.result c.args.q c.args.rows.now c.link_at.new.rows c.link_at-2.new.rows
    c.turned-one.ensures c.turned_twice-other.ensures c.link_at.ensures c.link_at-2.ensures
