use Rattle.std.proofs.Common.{arith, ◌≡◌, ◌+◌, ◌%◌, List, set, refl, sym, ◌∙◌, ap}
use Rattle.rv_terms.specs.Phases.{total, total_kept}
use Rattle.rv_terms.specs.declared.terms.Term.{Term}
use Rattle.rv_terms.specs.declared.kept.Kept.{Kept}
use Rattle.rv_terms.proofs.Powers.{free_term, free_kept, total_all, kept_all}
use Rattle.rv_terms.proofs.phases.Phases.has_path.Goals as goal

pub loop-term-preserved : goal.loop-term-preserved
loop-term-preserved c x v bit =
    free_term c.deref-term-items.result.now _ c.loop-term.term-index c.args.path x v bit c.loop-term-test.true
    (sym c.if-has_path.ensures) (c.loop-term.invariant x v bit)

pub loop-kept-preserved : goal.loop-kept-preserved
loop-kept-preserved c x v bit =
    free_kept c.deref-kept-items.result.now c.kept-item.result c.loop-kept.kept-index c.args.path x v bit c.loop-kept-test.true
    c.kept-item.is (c.if-has_path-2.ensures refl x v bit) (c.loop-kept.invariant x v bit)

pub returns : goal.returns
returns c off x v bit =
    let n = c.loop-term.term-index in
    let m = c.loop-kept.kept-index in
    let terms = c.deref-term-items.result.now in
    let kept = c.deref-kept-items.result.now in
    let u = set v c.args.path bit in
    let t : total c.args.self.now.terms.items x u ≡ total c.args.self.now.terms.items x v =
    ap (λ (l : List Term). total l x u) (sym c.deref-term-items.ensures.value)
    ∙ sym (total_all terms n x u c.loop-term-test.false (omega arith)) ∙ c.loop-term.invariant x v bit
    ∙ total_all terms n x v c.loop-term-test.false (omega arith) ∙ ap (λ (l : List Term). total l x v) c.deref-term-items.ensures.value in
    let k : total_kept c.args.self.now.kept.items x u ≡ total_kept c.args.self.now.kept.items x v =
    ap (λ (l : List Kept). total_kept l x u) (sym c.deref-kept-items.ensures.value)
    ∙ sym (kept_all kept m x u c.loop-kept-test.false (omega arith)) ∙ c.loop-kept.invariant x v bit
    ∙ kept_all kept m x v c.loop-kept-test.false (omega arith) ∙ ap (λ (l : List Kept). total_kept l x v) c.deref-kept-items.ensures.value in
    ap (λ a. (a + total_kept c.args.self.now.kept.items x u) % 8) t ∙ ap (λ a. (total c.args.self.now.terms.items x v + a) % 8) k
