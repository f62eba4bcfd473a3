use Rattle.std.proofs.Common.{sym, ap, ◌∙◌}
use Rattle.std.proofs.lemmas.Option.{none-some, same_Some}
use Rattle.rv_links.specs.Nodes.{Linkage}
use Rattle.rv_templ.specs.inside.Joins.{option_of}
use Rattle.rv_templ.proofs.inside.LinkedPairs.{first_live, still_live, both_gone, one_set}
use Rattle.rv_templ.proofs.pairs.make_pair.Goals as goal

pub erase-requires : goal.erase-requires
erase-requires c = first_live c.args.linked.now.nodes c.args.a c.args.b c.requires

pub erase-requires-in-Both : goal.erase-requires-in-Both
erase-requires-in-Both c = still_live c.args.linked.now.nodes _ c.args.a c.args.b c.recall_invariant.ensures.once c.requires (ap (λ (x : Linkage). x.nodes) c.erase.ensures.list)

pub erase-requires-in-One : goal.erase-requires-in-One
erase-requires-in-One c = first_live c.args.linked.now.nodes c.args.a c.args.b c.requires

pub set_gate-requires-clause-live : goal.set_gate-requires-clause-live
set_gate-requires-clause-live c = still_live c.args.linked.now.nodes _ c.args.a c.args.b c.recall_invariant.ensures.once c.requires (ap (λ (x : Linkage). x.nodes) c.erase-in-One.ensures.list)

pub set_gate-requires-clause-fits : goal.set_gate-requires-clause-fits
set_gate-requires-clause-fits c =
    let one = same_Some _ _ (sym (ap option_of c.in-One.is) ∙ c.joined.ensures.value c.requires) in
    let good = rw (← one) at (c.joined.ensures.good c.requires) in
    rw (ap (λ (x : Linkage). x.frame) c.erase-in-One.ensures.list) good.1

pub unreachable-requires : goal.unreachable-requires
unreachable-requires c = none-some _ (c.in-Apart.ensures.value c.requires)

pub returns-in-Both-clause-nodes : goal.returns-in-Both-clause-nodes
returns-in-Both-clause-nodes c m =
    both_gone _ _ _ _ _ m c.recall_invariant.ensures.once (c.in-Both.ensures.value m) (ap (λ (x : Linkage). x.nodes) c.erase.ensures.list) (ap (λ (x : Linkage). x.nodes) c.erase-in-Both.ensures.list)

pub returns-in-One-clause-nodes : goal.returns-in-One-clause-nodes
returns-in-One-clause-nodes c m =
    one_set _ _ _ _ _ m _ c.recall_invariant.ensures.once (c.in-One.ensures.value m) (ap (λ (x : Linkage). x.nodes) c.erase-in-One.ensures.list) (ap (λ (x : Linkage). x.nodes) c.set_gate.ensures)
