use Rattle.std.proofs.Common.{◌≡◌, ℕ, ◌%◌, Bool, List, sym, subst, ◌∙◌}
use Rattle.rv_forms.specs.declared.term.Term.{Term}
use Rattle.rv_forms.specs.inside.Held.{AreTerms}
use Rattle.rv_joined.specs.declared.slots.Slot.{Slot}
use Rattle.rv_joined.specs.inside.Slots.{total}
use Rattle.rv_joined.proofs.inside.Joins.{certified_runs}
use Rattle.rv_joined.proofs.certificate.certified.Goals as goal

pub returns : goal.returns
returns c =
    let state = c.in_ok-state in
    certified_runs c.args.setup c.deref-2.result.now state.state c.follow.new.state c.args.flips.now
    (c.in_ok-follow.ensures c.if-not-branch.false) state.ensures.start state.ensures.ops state.ensures.slots
    (subst (λ (f : ℕ). AreTerms f c.deref-2.result.now) c.from-first.ensures
    (subst (λ (t : List Term). AreTerms c.from-first.result t) (c.deref.ensures.value ∙ sym c.deref-2.ensures.value)
    (c.are_terms.ensures c.if-not-are_terms.false)))
    (subst (λ (l : List Slot). (bits : List Bool) → total bits l % 8 ≡ 0) c.deref-4.ensures.value
    (c.in_ok-are_none.ensures c.if-not-branch-2.false))
