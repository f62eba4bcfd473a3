use Rattle.std.proofs.Common.{◌≡◌, length}
use Rattle.rv_templ.specs.inside.Linking.{coming}
use Rattle.rv_templ.specs.inside.Notes.{Noted}
use Rattle.rv_templ.proofs.inside.PairWalk.{Along}
use Rattle.rv_templ.proofs.pairs.first_pair.Given as goal

abbrev pub invariant-loop-at : goal.invariant-loop-at
invariant-loop-at l = record {
  frame : l.linked.frame ≡ l.initial.linked.frame;
  nodes : l.linked.nodes ≡ l.initial.linked.nodes;
  along : Along l.initial.linked.nodes l.linked.notes l.place l.at;
  right : Noted l.linked.notes l.initial.linked.nodes l.far;
}

abbrev pub decreases-loop-at : goal.decreases-loop-at
decreases-loop-at l = length (coming l.at l.initial.linked.nodes)
