use Rattle.rv_links.proofs.inside.RingLemmas.{remove_by, is_ring, order_is}
use Rattle.rv_links.proofs.ring.Ring.remove.Goals as goal

pub invariant_of-self : goal.invariant_of-self
invariant_of-self c =
    is_ring _ _ _ _ (remove_by _ _ _ _ _ _ _ c.self.invariant (rw (← c.self.view_is) at c.requires) c.index-before.ensures c.index-after.ensures)

pub returns : goal.returns
returns c =
    rw (← c.self.view_is)
    (order_is _ _ _ _ (remove_by _ _ _ _ _ _ _ c.self.invariant (rw (← c.self.view_is) at c.requires) c.index-before.ensures c.index-after.ensures))
