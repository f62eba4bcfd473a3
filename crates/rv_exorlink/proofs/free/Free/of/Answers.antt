use Rattle.rv_exorlink.proofs.inside.FreeCubes.{free_by_number}
use Rattle.rv_exorlink.proofs.free.Free.of.Goals as goal

pub returns-then-some : goal.returns-then-some
returns-then-some c = free_by_number c.args.pla.now c.loop-number.table.items c.loop-number.invariant.so_far
