use Rattle.rv_links.proofs.inside.RingLemmas.{contains_by}
use Rattle.rv_links.proofs.ring.Ring.contains.Goals as goal

pub returns : goal.returns
returns c =
    rw (← c.self.view_is)
    (contains_by _ _ _ _ _ _ c.self.invariant (rw (← c.self.view_is) at c.requires) c.index.ensures)
