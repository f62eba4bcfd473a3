use Rattle.rv_links.proofs.inside.LinkedLemmas.{on_by, prev_by_nodes}
use Rattle.rv_links.proofs.linked.Linked.prev.Goals as goal

pub prev-requires : goal.prev-requires
prev-requires c = on_by _ _ c.self.view_is c.node.view_is c.requires

pub returns-in-Some : goal.returns-in-Some
returns-in-Some c = prev_by_nodes _ _ c.self.view_is c.node.view_is c.in-Some.ensures

pub returns-in-None : goal.returns-in-None
returns-in-None c = prev_by_nodes _ _ c.self.view_is c.node.view_is c.in-None.ensures
