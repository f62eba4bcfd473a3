use Rattle.std.proofs.Common.{◌≡◌, ℕ, ◌<◌, true}
use Rattle.std.specs.Prelude.{IsTrue, IsFalse}
use Rattle.rv_gate.specs.Word.{has}
use Rattle.rv_gate.specs.declared.gate.Shape.TheVariants.{Flip}
use Rattle.rv_templ.specs.inside.Lookups.{Loose, LooseOn}
use Rattle.rv_templ.specs.inside.Notes.{Fewer}
use Rattle.rv_templ.proofs.loosening.loosen_all.Given as goal

abbrev pub invariant-loop-line : goal.invariant-loop-line
invariant-loop-line l = record {
  frame : l.linked.frame ≡ l.fn.linked.frame;
  nodes : l.linked.nodes ≡ l.fn.linked.nodes;
  fewer : Fewer l.fn.linked.notes l.linked.notes;
  same : IsFalse l.went.gone → l.linked.notes ≡ l.fn.linked.notes;
  itself : IsTrue l.went.all → Loose l.linked.notes l.fn.linked.nodes l.b (Flip l.care l.want l.target);
  others : IsTrue l.went.all → (line : ℕ) → line < l.line → has l.used line ≡ true → LooseOn l.linked.notes l.fn.linked.nodes l.b l.care l.want l.target line;
}
