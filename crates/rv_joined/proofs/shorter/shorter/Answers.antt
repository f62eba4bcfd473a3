use Rattle.std.proofs.Common.{ℕ, List, refl, subst}
use Rattle.rv_gate.specs.declared.gate.Shape.{Shape}
use Rattle.rv_forms.specs.declared.form.Form.{Form}
use Rattle.rv_forms.specs.declared.term.Term.{Term}
use Rattle.rv_forms.specs.inside.Held.{AreTerms}
use Rattle.rv_joined.specs.inside.Shorter.{EndsAs, HoldSame}
use Rattle.rv_joined.proofs.inside.Fewer.{of_some, shorter_at_last}
use Rattle.rv_joined.proofs.shorter.shorter.Goals as goal

pub returns : goal.returns
returns c =
    let s = c.args.setup in
    let terms : List Term = c.in-Some.found.terms.items in
    let one : List Form = c.in-Some-2.before.items in
    let other : List Form = c.in-Some-3.after.items in
    shorter_at_last s terms c.args.flips.now c.in_ok-left.left.items one other c.in_ok-left.ensures
    (subst (λ (ts : List Term). EndsAs s ts c.args.flips.now one) c.deref-3.ensures.value
    (of_some _ c.in-Some-2.before _ c.in-Some-2.is c.in_ok-before.ensures))
    (subst (λ (gates : List Shape). EndsAs s terms gates other) c.deref-6.ensures.value
    (subst (λ (ts : List Term). EndsAs s ts c.deref-6.result.now other) c.deref-5.ensures.value
    (of_some _ c.in-Some-3.after _ c.in-Some-3.is c.in_ok-after.ensures)))
    (subst (λ (forms : List Form). HoldSame forms other) c.deref-8.ensures.value
    (subst (HoldSame c.deref-8.result.now) c.deref-9.ensures.value (c.if-not-hold_same.ensures refl)))
    (subst (λ (first : ℕ). AreTerms first terms) c.from-first.ensures
    (subst (AreTerms c.from-first.result) c.deref.ensures.value (c.if-not-are_terms.ensures refl)))
