use Rattle.std.proofs.Common.{sym, ◌∙◌, arith}
use Rattle.rv_templ.proofs.inside.PartnerWalk.{none_or, partner_nowhere, partner_at}
use Rattle.rv_templ.proofs.lookups.look_up.Goals as goal

pub returns-in-Nowhere : goal.returns-in-Nowhere
returns-in-Nowhere c =
    let least = rw (sym c.in-Flip.is ∙ c.shape.ensures.value ∙ c.requires.gate) at c.in-Nowhere.ensures.least in
    rw c.in-Nowhere.is
    (partner_nowhere _ _ c.recall_invariant.ensures.rising c.recall_invariant.ensures.once c.requires.live (λ x on late. none_or _ (least x on (omega (arith, late, c.number.ensures.value)))))

pub returns-then-joins : goal.returns-then-joins
returns-then-joins c =
    let least = rw (sym c.in-Flip.is ∙ c.shape.ensures.value ∙ c.requires.gate) at c.in-At.ensures.least in
    let j = rw (c.requires.gate, c.gate.ensures) at (c.joins-joins.ensures.some c.if-joins.true) in
    partner_at _ _ _ j.0 c.requires.live c.in-At.ensures.found.0 (omega (arith, c.in-At.ensures.found.1, c.number.ensures.value)) j.1
    (λ x on late. least x on (omega (arith, late, c.number.ensures.value)))
