use Rattle.std.proofs.Common.{sym}
use Rattle.rv_many.proofs.act_on_all.Goals as goal

pub flip_all-requires : goal.flip_all-requires
flip_all-requires c = rw (sym c.in-Flip.ensures.value) at c.requires

pub swap_all-requires : goal.swap_all-requires
swap_all-requires c = rw (sym c.in-Swap.ensures.value) at c.requires

pub peres_all-requires : goal.peres_all-requires
peres_all-requires c = rw (sym c.in-Peres.ensures.value) at c.requires
