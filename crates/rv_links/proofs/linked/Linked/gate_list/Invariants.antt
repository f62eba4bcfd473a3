use Rattle.std.proofs.Common.{◌≡◌, ◌++◌, length}
use Rattle.std.specs.Prelude.{IfSome, IsTrue}
use Rattle.rv_links.specs.Nodes.{live, gates_in}
use Rattle.rv_links.proofs.inside.WindowLemmas.{to_come}
use Rattle.rv_links.proofs.linked.Linked.gate_list.Given as goal

abbrev pub invariant-loop-at : goal.invariant-loop-at
invariant-loop-at l = record {
  live : IfSome l.at (λ a. IsTrue (live a l.self.nodes));
  gates : (l.gates.items ++ to_come l.at l.self.nodes) ≡ gates_in l.self.nodes;
}

abbrev pub decreases-loop-at : goal.decreases-loop-at
decreases-loop-at l = length (to_come l.at l.self.nodes)
