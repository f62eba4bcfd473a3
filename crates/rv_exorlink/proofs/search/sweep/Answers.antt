use Rattle.std.proofs.Common.{arith}
use Rattle.std.proofs.lemmas.Result.{on_ok_weaker}
use Rattle.rv_exorlink.proofs.Steps.{same_self, same_trans}
use Rattle.rv_exorlink.proofs.search.sweep.Goals as goal

pub loop-i-init : goal.loop-i-init
loop-i-init c = record { same = same_self c.args.inputs c.args.free.now c.args.cubes.now.items; ordered = omega arith }

pub loop-i-preserved : goal.loop-i-preserved
loop-i-preserved c =
    let at = c.start_of-start.ensures in
    record {
      same =
          same_trans c.args.inputs c.args.free.now c.args.cubes.now.items c.loop-i.cubes.items c.try_row.new.cubes.items
          c.loop-i.invariant.same
          c.in_ok-try_row.ensures;
      ordered = omega arith;
    }

pub returns : goal.returns
returns c =
    on_ok_weaker c.change_all.result
    (same_trans c.args.inputs c.args.free.now c.args.cubes.now.items c.loop-i.cubes.items c.change_all.new.cubes.items
    c.loop-i.invariant.same) c.change_all.ensures
