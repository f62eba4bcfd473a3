use Rattle.std.proofs.Common.{◌++◌, ◌∷◌, ℕ, List, [], take, drop, sym, ap, ◌∙◌, arith}
use Rattle.rv_pla.specs.Pla.{Term}
use Rattle.rv_pla.proofs.inside.Kept.{with_term}
use Rattle.rv_pla.proofs.line.State.read_term.Goals as goal

pub invariant_of-self-2 : goal.invariant_of-self-2
invariant_of-self-2 c =
    let row : List ℕ = c.in_ok-row.row.items in
    let i : ℕ = c.in-Some-Some.inputs in
    let front = sym (c.split_at.ensures.front ∙ ap (λ k. take k c.deref.result.now) c.from-3.ensures ∙ ap (take i) c.deref.ensures.value) in
    let back = sym (c.split_at.ensures.back ∙ ap (λ k. drop k c.deref.result.now) c.from-3.ensures ∙ ap (drop i) c.deref.ensures.value) in
    let is = c.in-Some.ensures i row front back in
    with_term _ c.self.invariant i c.in-Some-Some.outputs c.args.number c.push.new.self.items row c.in-Some-Some.is-0 c.in-Some-Some.is-1
    (omega arith) (omega arith)
    (c.in_ok-push.ensures.items ∙ ap (λ (t : Term). c.self.inside.terms.items ++ t ∷ []) is.1)
