use Rattle.std.proofs.Common.{sym}
use Rattle.rv_cube.proofs.inside.Watching.{link_found, link_missed}
use Rattle.rv_cube.proofs.watch.link_at.Goals as goal

pub returns-in-Some : goal.returns-in-Some
returns-in-Some c =
    link_found c.args.slots.now.cubes c.args.e c.in-Some.g c.args.cube c.args.rows.now c.link.new.rows c.in-Some.ensures.keyed (sym c.in-Some.ensures.value) c.link.ensures

pub returns-in-None : goal.returns-in-None
returns-in-None c = link_missed c.args.slots.now.cubes c.args.e c.args.cube c.args.rows.now (sym c.in-None.ensures.value)
