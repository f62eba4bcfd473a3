use Rattle.std.proofs.Common.{◌∙◌, ◌<◌, ℕ, List, length, refl, sym, arith}
use Rattle.rv_paths.specs.inside.Parity.{picked}
use Rattle.rv_paths.specs.declared.terms.Term.{Term}
use Rattle.rv_paths.proofs.inside.Vanishing.{chosen-left, chosen-taken}
use Rattle.rv_paths.proofs.terms.chosen.Goals as goal
use Rattle.rv_paths.proofs.terms.chosen.Goals.{then-has+in_ok-push, else-has}

pub loop-place-preserved : goal.loop-place-preserved
loop-place-preserved c =
    let terms : List Term = c.args.terms.now in
    let places : List ℕ = c.args.some.now in
    let k : ℕ = c.args.variable in
    let n : ℕ = c.loop-place.place-index in
    let within : n < length places = omega arith in
    elim c.if-has.branch [
      | then-has+in_ok-push w ↦
          (λ i. picked terms (w.list-is i).items)
          ∙ chosen-taken k n _ terms places c.loop-place.list.items _ 0 within refl (sym c.has.ensures ∙ w.if-has.true) w.in_ok-push.ensures.items c.loop-place.invariant
      | else-has w ↦
          (λ i. picked terms (w.list-is i).items)
          ∙ chosen-left k n _ terms places c.loop-place.list.items 0 within refl (sym c.has.ensures ∙ w.if-has.false) c.loop-place.invariant
    ]
