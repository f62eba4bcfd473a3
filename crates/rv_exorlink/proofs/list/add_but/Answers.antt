use Rattle.std.proofs.lemmas.Result.{on_ok_weaker}
use Rattle.rv_exorlink.proofs.Steps.{but_added, but_none}
use Rattle.rv_exorlink.proofs.list.add_but.Goals as goal

pub returns-then-has : goal.returns-then-has
returns-then-has c =
    but_none c.args.inputs c.args.free.now c.args.cube c.args.cubes.now.items (c.has.ensures c.if-has.true)

pub returns : goal.returns
returns c =
    on_ok_weaker c.add.result
    (but_added c.args.inputs c.args.free.now c.args.cube c.args.cubes.now.items c.add.new.cubes.items) c.add.ensures
