use Rattle.std.proofs.Common.{◌≡◌, ℕ, ◌<◌, true}
use Rattle.rv_gate.specs.Word.{has}
use Rattle.rv_gate.specs.declared.gate.Shape.TheVariants.{Flip}
use Rattle.rv_links.specs.Seeking.{Found}
use Rattle.rv_templ.specs.inside.Lookups.{Seen, SeenOn}
use Rattle.rv_templ.proofs.lookups.first_joined.Given as goal

-- the lines before were looked at
abbrev pub invariant-loop-line : goal.invariant-loop-line
invariant-loop-line l = record {
  found : Found l.linked.nodes l.from l.best;
  same : Seen l.linked.nodes l.from l.best (Flip l.care l.want l.target);
  others : (line : ℕ) → line < l.line → has l.used line ≡ true → SeenOn l.linked.nodes l.from l.best l.care l.want l.target line;
}
