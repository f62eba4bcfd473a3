use Rattle.rv_links.proofs.inside.WindowLemmas.{linkage_is}
use Rattle.rv_links.proofs.linked.Linked.recall_invariant.Goals as goal

pub returns : goal.returns
returns c =
    rw (← c.self.view_is) (linkage_is _ _ _ c.self.invariant.0 c.self.invariant.3.rising c.recall_invariant.ensures)
