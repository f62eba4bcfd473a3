use Rattle.std.proofs.Common.{◌≡◌, length, take}
use Rattle.rv_templ.specs.inside.Linking.{coming}
use Rattle.rv_templ.specs.inside.Notes.{AllNoted, Fewer}
use Rattle.rv_templ.proofs.inside.ForgetWalks.{Near}
use Rattle.rv_templ.proofs.notes.forget_near.Given as goal

abbrev pub invariant-loop-at : goal.invariant-loop-at
invariant-loop-at l = record {
  frame : l.linked.frame ≡ l.initial.linked.frame;
  nodes : l.linked.nodes ≡ l.initial.linked.nodes;
  fewer : Fewer l.initial.linked.notes l.linked.notes;
  known : AllNoted l.initial.linked.notes (take l.low.place l.initial.linked.nodes) → AllNoted l.linked.notes (take l.low.place l.initial.linked.nodes);
  near : Near l.initial.linked.nodes l.linked.notes l.low.place l.a l.b l.made l.at;
}

abbrev pub decreases-loop-at : goal.decreases-loop-at
decreases-loop-at l = length (coming l.at l.initial.linked.nodes)
