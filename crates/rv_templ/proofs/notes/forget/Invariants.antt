use Rattle.std.proofs.Common.{◌≡◌, ◌+◌, take, drop}
use Rattle.rv_links.specs.Order.{head}
use Rattle.rv_links.specs.Nodes.{ids_in}
use Rattle.rv_templ.specs.inside.Notes.{AllNoted, NoneNoted, Fewer}
use Rattle.rv_templ.proofs.notes.forget.Given as goal

abbrev pub invariant-loop-i : goal.invariant-loop-i
invariant-loop-i l = record {
  frame : l.linked.frame ≡ l.initial.linked.frame;
  nodes : l.linked.nodes ≡ l.initial.linked.nodes;
  fewer : Fewer l.initial.linked.notes l.linked.notes;
  known : AllNoted l.initial.linked.notes (take l.low.place l.initial.linked.nodes) → AllNoted l.linked.notes (take l.low.place l.initial.linked.nodes);
  here : NoneNoted l.linked.notes (take l._i (drop l.low.place l.initial.linked.nodes));
  at_is : l.at ≡ head (ids_in (drop (l.low.place + l._i) l.initial.linked.nodes));
}
