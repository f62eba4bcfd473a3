use Rattle.std.proofs.Common.{◌≡◌, suc, length}
use Rattle.std.specs.Prelude.{None}
use Rattle.rv_links.specs.Nodes.{node_gate}
use Rattle.rv_templ.specs.Pairs.{paired}
use Rattle.rv_templ.specs.inside.Linking.{coming}
use Rattle.rv_templ.proofs.inside.LookupLaws.{Walked}
use Rattle.rv_templ.proofs.pairs.partner_along.Given as goal

-- so far none joins
abbrev pub invariant-loop-at : goal.invariant-loop-at
invariant-loop-at l = Walked l.linked.nodes (suc l.fn.node) (λ x. paired l.gate (node_gate x l.linked.nodes) ≡ None) l.at

abbrev pub decreases-loop-at : goal.decreases-loop-at
decreases-loop-at l = length (coming l.at l.linked.nodes)
