use Rattle.std.proofs.Common.{◌≡◌}
use Rattle.std.specs.Prelude.{IsFalse}
use Rattle.rv_templ.specs.inside.Lookups.{Loose}
use Rattle.rv_templ.specs.inside.Notes.{Fewer}
use Rattle.rv_templ.proofs.loosening.loosen.Given as goal

abbrev pub invariant-loop-i : goal.invariant-loop-i
invariant-loop-i l = record {
  frame : l.linked.frame ≡ l.fn.linked.frame;
  nodes : l.linked.nodes ≡ l.fn.linked.nodes;
  fewer : Fewer l.fn.linked.notes l.linked.notes;
  same : IsFalse l.gone → IsFalse l.fn.so_far.gone × (l.linked.notes ≡ l.fn.linked.notes);
  loose : Loose l.linked.notes l.fn.linked.nodes l.from l.gate;
}
