use Rattle.rv_exorlink.proofs.Steps.{same_self, same_trans}
use Rattle.rv_exorlink.proofs.change.change_all.Goals as goal

pub loop-slot-init : goal.loop-slot-init
loop-slot-init c = same_self c.args.inputs c.args.free.now c.args.cubes.now.items

pub loop-slot-preserved : goal.loop-slot-preserved
loop-slot-preserved c =
    same_trans c.args.inputs c.args.free.now c.args.cubes.now.items c.loop-slot.cubes.items c.change_at.new.cubes.items
    c.loop-slot.invariant c.in_ok-change_at.ensures
