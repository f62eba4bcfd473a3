use Rattle.rv_links.proofs.inside.RingLemmas.{greatest_by}
use Rattle.rv_links.proofs.ring.Ring.greatest.Goals as goal

pub returns-clause-most : goal.returns-clause-most
returns-clause-most c x =
    rw (← c.self.view_is)
    (λ on. greatest_by _ _ _ _ _ x c.self.invariant (rw (← c.self.view_is) at c.requires) c.index.ensures on)
