use Rattle.std.proofs.Common.{sym, ◌∙◌, eq-eqb, ne_eqb}
use Rattle.std.specs.Prelude.{Some, None}
use Rattle.std.proofs.lemmas.Bool.{cond-true, cond-false}
use Rattle.rv_links.proofs.inside.RingLemmas.{prev_by}
use Rattle.rv_links.proofs.ring.Ring.prev.Goals as goal

pub returns-then-id-self : goal.returns-then-id-self
returns-then-id-self c =
    rw (← c.self.view_is)
    (sym (cond-true _ None (Some c.index-id.result.now) (eq-eqb _ _ c.if-id-self.true))
    ∙ prev_by _ _ _ _ _ _ c.self.invariant (rw (← c.self.view_is) at c.requires) c.index-id.ensures)

pub returns-else-id-self : goal.returns-else-id-self
returns-else-id-self c =
    rw (← c.self.view_is)
    (sym (cond-false _ None (Some c.index-id.result.now) (ne_eqb _ _ c.if-id-self.false))
    ∙ prev_by _ _ _ _ _ _ c.self.invariant (rw (← c.self.view_is) at c.requires) c.index-id.ensures)
