use Rattle.std.proofs.Common.{◌≡◌, length, ◌+◌}
use Rattle.rv_links.specs.Nodes.{gates_in}
use Rattle.std.specs.Prelude.{IfSome}
use Rattle.rv_templ.specs.inside.Library.{templates_in}
use Rattle.rv_templ.specs.inside.Notes.{IsKnown}
use Rattle.rv_templ.proofs.inside.Stepping.{Stepping, left}
use Rattle.rv_templ.proofs.simplify.simplify.Given as goal

abbrev pub invariant-loop-known : goal.invariant-loop-known
invariant-loop-known l = record {
  frame : l.linked.frame ≡ l.initial.linked.frame;
  steps : Stepping (templates_in l.templates) (length l.initial.linked.frame.names) (gates_in l.initial.linked.nodes) (gates_in l.linked.nodes) l.known;
  facts : IfSome l.known (λ s. IsKnown (templates_in l.templates) l.linked.nodes l.linked.notes s.clean s.due s.far);
}

abbrev pub decreases-loop-known : goal.decreases-loop-known
decreases-loop-known l = length (gates_in l.linked.nodes) + left l.known
