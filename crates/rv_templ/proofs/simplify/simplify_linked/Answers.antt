use Rattle.std.proofs.Common.{◌≡◌, ◌∙◌, ap, subst}
use Rattle.rv_links.specs.Nodes.{gates_in}
use Rattle.rv_templ.specs.Simplified.{NoStepLeft, simplified}
use Rattle.rv_templ.proofs.FirstSteps.{simplified-first}
use Rattle.rv_templ.proofs.simplify.simplify_linked.Goals as goal

pub returns-clause-steps : goal.returns-clause-steps
returns-clause-steps c =
    let library = c.args.library.now in
    let made = gates_in c.simplify.new.linked.nodes in
    let by = c.templates.ensures.value in
    let is : made ≡ simplified library (gates_in c.args.linked.now.nodes) =
    c.simplify.ensures.value ∙ ap (λ l. simplified l (gates_in c.forget_all.new.linked.nodes)) by
    ∙ ap (λ nodes. simplified library (gates_in nodes)) c.forget_all.ensures.nodes in
    simplified-first library (gates_in c.args.linked.now.nodes) made c.templates.ensures.templates is (subst (λ l. NoStepLeft l made) by c.simplify.ensures.settled)
