use Rattle.std.proofs.Common.{◌≡◌, ◌-◌, ◌++◌, take}
use Rattle.std.specs.Prelude.{IsTrue, IfSome, Some}
use Rattle.rv_links.specs.Nodes.{live}
use Rattle.rv_templ.specs.inside.Linking.{coming}
use Rattle.rv_templ.proofs.windows.copy_from.Given as goal

abbrev pub invariant-loop-i : goal.invariant-loop-i
invariant-loop-i l = record {
  rest : take l.i l.room ++ take (l.most - l.i) (coming l.at l.linked.nodes) ≡ take l.most (coming (Some l.fn.node) l.linked.nodes);
  live : IfSome l.at (λ a. IsTrue (live a l.linked.nodes));
}
