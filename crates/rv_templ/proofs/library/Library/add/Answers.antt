use Rattle.std.proofs.Common.{List, sym, subst}
use Rattle.rv_gate.specs.declared.gate.Shape.{Shape}
use Rattle.rv_templ.specs.Templates.{IsTemplate}
use Rattle.rv_templ.proofs.inside.TemplateLaws.{template_from, still_templates}
use Rattle.rv_templ.proofs.library.Library.add.Goals as goal

pub invariant_of-self-2 : goal.invariant_of-self-2
invariant_of-self-2 c =
    let is = template_from c.args.circuit.now c.recall_invariant.ensures (sym c.in_default.ensures) in
    still_templates _ _ c.gates.result.now c.in_ok-push_copy.ensures.ok c.self.invariant (subst (λ (l : List Shape). IsTemplate l) (sym c.gates.ensures) is)

pub returns-clause-template : goal.returns-clause-template
returns-clause-template c = template_from c.args.circuit.now c.recall_invariant.ensures (sym c.in_default.ensures)
