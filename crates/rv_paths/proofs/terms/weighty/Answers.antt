use Rattle.std.proofs.Common.{ℕ, List, ap, ◌∙◌}
use Rattle.rv_paths.specs.declared.terms.Term.{Term}
use Rattle.rv_paths.specs.inside.Parity.{picked, value_from}
use Rattle.rv_paths.proofs.inside.Vanishing.{value-left, value-taken}
use Rattle.rv_paths.proofs.terms.weighty.Goals as goal
use Rattle.rv_paths.proofs.terms.weighty.Goals.{then-terms-place-ne0+in_ok-push, else-terms-place-ne0}

pub loop-place-preserved : goal.loop-place-preserved
loop-place-preserved c from v =
    let terms : List Term = c.args.terms.now in
    let place : ℕ = c.loop-place.place in
    let list : List ℕ = c.loop-place.list.items in
    let more : List ℕ = c.if-terms-place-ne0.list.items in
    let at : Term = c.index-terms-place.result in
    elim c.if-terms-place-ne0.branch [
      | then-terms-place-ne0+in_ok-push w ↦
          value-taken terms list more place from v (ap (λ l. l.items) w.list-is ∙ w.in_ok-push.ensures.items) (c.loop-place.invariant from v)
      | else-terms-place-ne0 w ↦
          ap (λ (l : List ℕ). value_from from (picked terms l) v) (ap (λ l. l.items) w.list-is)
          ∙ value-left terms list place from v at c.loop-place-test.true w.if-terms-place-ne0.false
          (c.loop-place.invariant from v)
    ]
