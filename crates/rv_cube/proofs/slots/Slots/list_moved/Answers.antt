use Rattle.std.proofs.lemmas.Result.{on_ok_weaker}
use Rattle.rv_cube.specs.declared.distance.Turns.TheVariants.{Once, Twice}
use Rattle.rv_cube.specs.inside.Moved.{turned_by}
use Rattle.rv_cube.proofs.inside.Moved.{gains_either}
use Rattle.rv_cube.proofs.inside.Probes.{place_after}
use Rattle.rv_cube.proofs.slots.Slots.list_moved.Goals as goal

pub list_at-requires-clause-place : goal.list_at-requires-clause-place
list_at-requires-clause-place c =
    let cube = c.args.row.now.cube in
    place_after (turned_by cube c.args.p c.args.turns) cube (turned_by cube c.args.row.now.q Once) c.args.place c.args.row.now.one_step c.requires.place c.requires.row.one

pub returns : goal.returns
returns c =
    let cube = c.args.row.now.cube in
    on_ok_weaker c.list_at-2.result
    (gains_either c.args.self.now.cubes (turned_by cube c.args.p c.args.turns) cube (turned_by cube c.args.row.now.q Once) (turned_by cube c.args.row.now.q Twice)
    c.args.found.now.items c.list_at.new.found.items c.list_at-2.new.found.items c.in_ok-list_at.ensures)
    c.list_at-2.ensures
