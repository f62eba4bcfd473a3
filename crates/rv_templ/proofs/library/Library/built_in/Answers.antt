use Rattle.std.proofs.Common.{List, sym, subst}
use Rattle.rv_gate.specs.declared.gate.Shape.{Shape}
use Rattle.rv_templ.specs.Templates.{AreTemplates}
use Rattle.rv_templ.proofs.BuiltInLaws.{built_in_are}
use Rattle.rv_templ.proofs.library.Library.built_in.Goals as goal

pub invariant_of-result : goal.invariant_of-result
invariant_of-result c = subst (λ (l : List (List Shape)). AreTemplates l) (sym c.in_ok-templates.ensures) built_in_are

pub returns-in_err-templates-clause-templates : goal.returns-in_err-templates-clause-templates
returns-in_err-templates-clause-templates c = built_in_are

pub returns-clause-templates : goal.returns-clause-templates
returns-clause-templates c = built_in_are
