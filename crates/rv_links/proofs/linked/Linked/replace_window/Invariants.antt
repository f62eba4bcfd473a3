use Rattle.std.proofs.Common.{◌≡◌, ◌-◌, drop}
use Rattle.std.specs.Prelude.{IfSome, IsTrue}
use Rattle.rv_links.specs.Nodes.{live, window_set}
use Rattle.rv_links.specs.inside.Chains.{finish}
use Rattle.rv_links.proofs.linked.Linked.replace_window.Given as goal

abbrev pub invariant-loop-i : goal.invariant-loop-i
invariant-loop-i l = record {
  live : IfSome l.at (λ a. IsTrue (live a l.self.nodes));
  frame : l.self.frame ≡ l.initial.self.frame;
  notes : l.self.notes ≡ l.initial.self.notes;
  same : finish l.at (l.count - l.i) (drop l.i l.gates) l.self.nodes ≡ window_set l.fn.first l.count l.gates l.initial.self.nodes;
}
