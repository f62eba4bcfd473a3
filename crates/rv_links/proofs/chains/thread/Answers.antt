use Rattle.std.proofs.Common.{ap, sym, ◌∙◌, arith, ◌++◌, ◌∷◌, []}
use Rattle.std.specs.List.{range_with_len}
use Rattle.rv_links.specs.Order.{lists}
use Rattle.rv_links.specs.inside.Ring.{Order}
use Rattle.rv_links.proofs.inside.ChangeLemmas.{fresh_in_range, range_more}
use Rattle.rv_links.proofs.chains.thread.Goals as goal

pub push_back-requires-clause-fresh : goal.push_back-requires-clause-fresh
push_back-requires-clause-fresh c = ap (lists c.loop-id.id) c.loop-id.invariant.1 ∙ fresh_in_range c.loop-id.id

pub loop-id-preserved : goal.loop-id-preserved
loop-id-preserved c =
    (ap (λ (o : Order). o.room) c.push_back.ensures ∙ c.loop-id.invariant.0, ap (λ (o : Order). o.ids) c.push_back.ensures ∙ ap (λ l. l ++ c.loop-id.id ∷ []) c.loop-id.invariant.1 ∙ sym (range_more 0 c.loop-id.id ∙ ap (λ n. range_with_len 0 c.loop-id.id ++ n ∷ []) (omega arith)))
