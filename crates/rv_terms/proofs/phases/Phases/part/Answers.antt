use Rattle.std.proofs.Common.{arith, true, false, get_or, ◌+◌, ◌%◌, cond, List, take, set, sym, ◌∙◌, ap}
use Rattle.rv_terms.specs.Products.{value, always}
use Rattle.rv_terms.specs.Phases.{total, total_kept, power}
use Rattle.rv_terms.specs.declared.product.Product.{Product}
use Rattle.rv_terms.specs.declared.terms.Term.{Term}
use Rattle.rv_terms.specs.declared.kept.Kept.{Kept}
use Rattle.rv_terms.proofs.Powers.{part_term_on, part_term_off, part_kept, total_all, kept_all}
use Rattle.rv_terms.specs.declared.phases.Phases.{Phases}
use Rattle.rv_terms.proofs.Puts.{put_path_off, put_path_on}
use Rattle.rv_terms.proofs.phases.Phases.part.Goals as goal
use Rattle.rv_terms.proofs.phases.Phases.part.Goals.{then-meets+in_ok-add, else-meets}

pub loop-term-init : goal.loop-term-init
loop-term-init c x v y w z u off on =
    let e = c.new-part.ensures x v in
    omega (arith, e)

pub loop-term-preserved : goal.loop-term-preserved
loop-term-preserved c x v y w z u off on =
    let terms = c.deref-term-items.result.now in
    let i = c.loop-term.term-index in
    let nothing : Term = record { product = always; weight = 0 } in
    elim c.if-meets.branch [
      | then-meets+in_ok-add b ↦
          (part_term_on terms c.of_path-bit.result nothing i (power c.loop-term.part x v) (power b.add.new.self x v) x v y w z u c.loop-term-test.true
          (sym c.meets.ensures ∙ b.if-meets.true)
          (b.in_ok-add.ensures x v ∙ ap (λ (t : Product). (power c.loop-term.part x v + cond (value t x v) (get_or terms i nothing).weight 0) % 8) b.less.ensures)
          off on (c.loop-term.invariant x v y w z u off on)
          ∙ ap (λ (p : Phases). (total (take (i + 1) terms) y w + power p x v) % 8) (sym b.part-is))
      | else-meets b ↦
          (part_term_off terms c.of_path-bit.result nothing i (power c.loop-term.part x v) x v y w z u c.loop-term-test.true
          (sym c.meets.ensures ∙ b.if-meets.false) off on (c.loop-term.invariant x v y w z u off on)
          ∙ ap (λ (p : Phases). (total (take (i + 1) terms) y w + power p x v) % 8) (sym b.part-is))
    ]

pub loop-kept-init : goal.loop-kept-init
loop-kept-init c x v y w z u off on =
    let terms = c.deref-term-items.result.now in
    let n = c.loop-term.term-index in
    let e = total_all terms n z u c.loop-term-test.false (omega arith) ∙ ap (λ (l : List Term). total l z u) c.deref-term-items.ensures.value in
    let f = total_all terms n y w c.loop-term-test.false (omega arith) ∙ ap (λ (l : List Term). total l y w) c.deref-term-items.ensures.value in
    omega (arith, e, f, c.loop-term.invariant x v y w z u off on)

pub loop-kept-preserved : goal.loop-kept-preserved
loop-kept-preserved c x v y w z u off on =
    part_kept c.deref-kept-items.result.now c.kept-item.result c.loop-kept.kept-index (total c.args.self.now.terms.items z u)
    (total c.args.self.now.terms.items y w) (power c.loop-kept.part x v) (power c.add_part.new.self x v) y w z u
    c.loop-kept-test.true c.kept-item.is (c.in_ok-add_part.ensures x v y w z u off on) (c.loop-kept.invariant x v y w z u off on)

pub returns : goal.returns
returns c x v lt =
    let kept = c.deref-kept-items.result.now in
    let m = c.loop-kept.kept-index in
    let on = put_path_on c.args.path c.of_path-bit.result x v lt c.of_path-bit.ensures.alone in
    let off = put_path_off c.args.path c.of_path-bit.result x v lt c.of_path-bit.ensures.alone in
    let e = kept_all kept m x (set v c.args.path true) c.loop-kept-test.false (omega arith)
    ∙ ap (λ (l : List Kept). total_kept l x (set v c.args.path true)) c.deref-kept-items.ensures.value in
    let f = kept_all kept m x (set v c.args.path false) c.loop-kept-test.false (omega arith)
    ∙ ap (λ (l : List Kept). total_kept l x (set v c.args.path false)) c.deref-kept-items.ensures.value in
    omega (arith, e, f, c.loop-kept.invariant x v _ _ _ _ off on)
