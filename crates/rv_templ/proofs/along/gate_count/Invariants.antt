use Rattle.std.proofs.Common.{◌≡◌, ◌≤◌, length, drop}
use Rattle.rv_links.specs.Order.{head}
use Rattle.rv_links.specs.Nodes.{ids_in}
use Rattle.rv_templ.specs.inside.Linking.{coming}
use Rattle.rv_templ.proofs.along.gate_count.Given as goal

abbrev pub invariant-loop-at : goal.invariant-loop-at
invariant-loop-at l = record {
  node : l.at ≡ head (ids_in (drop l.place l.linked.nodes));
  few : l.place ≤ length l.linked.nodes;
}

abbrev pub decreases-loop-at : goal.decreases-loop-at
decreases-loop-at l = length (coming l.at l.linked.nodes)
