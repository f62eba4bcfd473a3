use Rattle.std.proofs.Common.{◌≡◌, drop, length}
use Rattle.std.specs.Prelude.{IsTrue, IfSome}
use Rattle.rv_links.specs.Order.{head}
use Rattle.rv_links.specs.Nodes.{live, ids_in, gates_in}
use Rattle.rv_templ.specs.inside.Library.{templates_in}
use Rattle.rv_templ.specs.inside.Clean.{Clean}
use Rattle.rv_templ.specs.inside.Linking.{coming}
use Rattle.rv_templ.proofs.windows.first_window.Given as goal

abbrev pub invariant-loop-at : goal.invariant-loop-at
invariant-loop-at l = record {
  rest : coming l.at l.linked.nodes ≡ drop l.place (gates_in l.linked.nodes);
  node : l.at ≡ head (ids_in (drop l.place l.linked.nodes));
  live : IfSome l.at (λ a. IsTrue (live a l.linked.nodes));
  clean : Clean (templates_in l.templates) (gates_in l.linked.nodes) l.place;
}

abbrev pub decreases-loop-at : goal.decreases-loop-at
decreases-loop-at l = length (coming l.at l.linked.nodes)
