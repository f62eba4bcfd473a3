use Rattle.std.proofs.Common.{◌≡◌, true}
use Rattle.rv_gate.specs.Commuting.{rule}
use Rattle.rv_links.specs.Nodes.{node_gate}
use Rattle.rv_templ.specs.inside.Mates.{numbers_left}
use Rattle.rv_templ.proofs.inside.LookupLaws.{Walked}
use Rattle.rv_templ.proofs.stops.commutes_before.Given as goal

-- so far all commute
abbrev pub invariant-loop-at : goal.invariant-loop-at
invariant-loop-at l = Walked l.linked.nodes 0 (λ x. rule l.gate (node_gate x l.linked.nodes) ≡ true) l.at

abbrev pub decreases-loop-at : goal.decreases-loop-at
decreases-loop-at l = numbers_left l.at
