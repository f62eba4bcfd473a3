use Rattle.std.proofs.Common.{sym, arith}
use Rattle.rv_links.proofs.inside.LinkedLemmas.{live_by}
use Rattle.rv_links.proofs.linked.Linked.is_live.Goals as goal
use Rattle.std.proofs.lemmas.Bool.{false_from_ne_true}

pub returns-then-node-len : goal.returns-then-node-len
returns-then-node-len c =
    live_by _ _ c.self.view_is c.node.view_is
    (sym (false_from_ne_true _ (λ on. let lt = c.self.invariant.0.below _ on in absurd (omega arith))))

pub returns : goal.returns
returns c = live_by _ _ c.self.view_is c.node.view_is c.contains.ensures
