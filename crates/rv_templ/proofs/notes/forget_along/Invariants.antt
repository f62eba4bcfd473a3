use Rattle.std.proofs.Common.{◌≡◌, length}
use Rattle.std.specs.Prelude.{◌⊎◌, IsFalse, None}
use Rattle.rv_links.specs.Nodes.{node_gate, noted}
use Rattle.rv_templ.specs.Pairs.{paired}
use Rattle.rv_templ.specs.inside.Linking.{coming}
use Rattle.rv_templ.specs.inside.Notes.{Fewer}
use Rattle.rv_templ.proofs.inside.LookupLaws.{Walked}
use Rattle.rv_templ.proofs.notes.forget_along.Given as goal

abbrev pub invariant-loop-at : goal.invariant-loop-at
invariant-loop-at l = record {
  frame : l.linked.frame ≡ l.initial.linked.frame;
  nodes : l.linked.nodes ≡ l.initial.linked.nodes;
  fewer : Fewer l.initial.linked.notes l.linked.notes;
  same : IsFalse l.gone → l.linked.notes ≡ l.initial.linked.notes;
  loose : Walked l.initial.linked.nodes 0 (λ x. (noted x l.linked.notes ≡ 0) ⊎ (paired (node_gate x l.initial.linked.nodes) l.new ≡ None)) l.at;
}

abbrev pub decreases-loop-at : goal.decreases-loop-at
decreases-loop-at l = length (coming l.at l.initial.linked.nodes)
