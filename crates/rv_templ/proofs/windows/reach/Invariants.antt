use Rattle.std.proofs.Common.{◌≡◌, drop}
use Rattle.std.specs.Prelude.{IsTrue, IfSome, Some}
use Rattle.rv_links.specs.Nodes.{live}
use Rattle.rv_templ.specs.inside.Linking.{coming}
use Rattle.rv_templ.specs.inside.Pruning.{varied}
use Rattle.rv_templ.proofs.windows.reach.Given as goal

abbrev pub invariant-loop-i : goal.invariant-loop-i
invariant-loop-i l = record {
  set : l.set ≡ varied (coming (Some l.fn.node) l.linked.nodes) l.i;
  rest : coming l.at l.linked.nodes ≡ drop l.i (coming (Some l.fn.node) l.linked.nodes);
  live : IfSome l.at (λ a. IsTrue (live a l.linked.nodes));
}
