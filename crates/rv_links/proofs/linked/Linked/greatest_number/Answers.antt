use Rattle.std.proofs.Common.{refl}
use Rattle.rv_links.proofs.inside.LinkedLemmas.{on_by}
use Rattle.rv_links.proofs.linked.Linked.greatest_number.Goals as goal

pub returns-clause-most : goal.returns-clause-most
returns-clause-most c x on = c.greatest.ensures.most x (on_by _ _ c.self.view_is refl on)
