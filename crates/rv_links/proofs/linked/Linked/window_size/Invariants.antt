use Rattle.std.proofs.Common.{◌≤◌, ◌*◌, ◌-◌, take}
use Rattle.std.specs.Prelude.{IfSome, IsTrue}
use Rattle.rv_links.specs.Nodes.{live, window_gates}
use Rattle.rv_links.proofs.inside.WindowLemmas.{Ahead, to_come}
use Rattle.rv_links.proofs.linked.Linked.window_size.Given as goal

abbrev pub invariant-loop-i : goal.invariant-loop-i
invariant-loop-i l = record {
  live : IfSome l.at (λ a. IsTrue (live a l.self.nodes));
  small : l.sum ≤ 64 * l.i;
  ahead : Ahead (take (l.count - l.i) (to_come l.at l.self.nodes)) (window_gates l.fn.first l.count l.self.nodes) l.i l.sum;
}
