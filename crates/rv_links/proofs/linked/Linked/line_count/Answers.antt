use Rattle.rv_links.proofs.inside.WindowLemmas.{linkage_is}
use Rattle.rv_links.proofs.linked.Linked.line_count.Goals as goal

pub returns-clause-valid : goal.returns-clause-valid
returns-clause-valid c =
    rw (← c.self.view_is) (linkage_is _ _ _ c.self.invariant.0 c.self.invariant.3.rising c.line_count.ensures.valid)
