use Rattle.rv_cube.proofs.inside.Watching.{from_marks}
use Rattle.rv_cube.proofs.watch.link_from.Goals as goal

pub returns : goal.returns
returns c =
    from_marks c.args.slots.now.cubes c.args.e c.args.p c.args.slots.now.inputs c.cube-cube.result c.turned-one.result c.turned_twice-other.result
    c.args.rows.now c.link_across.new.rows c.link_across-2.new.rows c.cube-cube.ensures.value c.turned-one.ensures c.turned_twice-other.ensures
    c.link_across.ensures c.link_across-2.ensures
