use Rattle.std.proofs.Common.{sym, subst, ◌∙◌}
use Rattle.rv_angles.specs.Exact.{IsExact}
use Rattle.rv_angles.specs.declared.form.Form.TheVariants as form
use Rattle.rv_angles.proofs.Laws.{one-exact, controlled-exact, sx-exact, sxdg-exact, cy-exact, ch-exact, ccz-exact}
use Rattle.rv_angles.proofs.form.form_of.Goals as goal

pub returns-in-Some-clause-exact : goal.returns-in-Some-clause-exact
returns-in-Some-clause-exact c =
    subst (λ g. IsExact g (form.Turned c.in-Some.turn)) (sym c.in-One.is) (one-exact c.in-One.matrix c.in-Some.turn (sym c.turn_of.ensures ∙ c.in-Some.is))

pub returns-in-Some-phased_of-clause-exact : goal.returns-in-Some-phased_of-clause-exact
returns-in-Some-phased_of-clause-exact c =
    subst (λ g. IsExact g (form.Phased c.in-Some-phased_of.phased)) (sym c.in-Controlled.is) (controlled-exact c.in-Controlled.matrix c.in-Some-phased_of.phased (sym c.phased_of.ensures ∙ c.in-Some-phased_of.is))

pub returns-in-Sx-clause-exact : goal.returns-in-Sx-clause-exact
returns-in-Sx-clause-exact c = subst (λ g. IsExact g form.Sx) (sym c.in-Sx.is) sx-exact

pub returns-in-Sxdg-clause-exact : goal.returns-in-Sxdg-clause-exact
returns-in-Sxdg-clause-exact c = subst (λ g. IsExact g form.Sxdg) (sym c.in-Sxdg.is) sxdg-exact

pub returns-in-Cy-clause-exact : goal.returns-in-Cy-clause-exact
returns-in-Cy-clause-exact c = subst (λ g. IsExact g form.Cy) (sym c.in-Cy.is) cy-exact

pub returns-in-Ch-clause-exact : goal.returns-in-Ch-clause-exact
returns-in-Ch-clause-exact c = subst (λ g. IsExact g form.Ch) (sym c.in-Ch.is) ch-exact

pub returns-in-Ccz-clause-exact : goal.returns-in-Ccz-clause-exact
returns-in-Ccz-clause-exact c = subst (λ g. IsExact g form.Ccz) (sym c.in-Ccz.is) ccz-exact
