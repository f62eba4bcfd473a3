use Rattle.std.proofs.Common.{arith}
use Rattle.std.proofs.lemmas.Result.{on_ok_weaker}
use Rattle.rv_exorlink.proofs.Steps.{exchanged}
use Rattle.rv_exorlink.proofs.way.exorlink.Goals as goal

pub returns : goal.returns
returns c =
    let old = c.args.cubes.now.items in
    let mid = c.swap_remove-x.new.self.items in
    on_ok_weaker c.add_way.result
    (exchanged c.args.inputs c.args.free.now old c.args.i c.swap_remove-x.result mid c.args.j c.swap_remove-y.result
    c.swap_remove-y.new.self.items c.add_way.new.cubes.items
    (record { within = omega arith; read = c.swap_remove-x.ensures.value; is = c.swap_remove-x.ensures.items })
    (record { within = omega arith; read = c.swap_remove-y.ensures.value; is = c.swap_remove-y.ensures.items }))
    c.add_way.ensures
