use Rattle.std.proofs.Common.{List, refl, sym, ap, ◌∙◌, arith, subst, length-set, set}
use Rattle.rv_gate.specs.Gate.{xor}
use Rattle.rv_terms.specs.Products.{odd}
use Rattle.rv_terms.specs.Phases.{power}
use Rattle.rv_terms.specs.declared.sum.Sum.{Sum}
use Rattle.rv_sums.specs.inside.State.{ArePut}
use Rattle.rv_sums.proofs.inside.Shorter.{join_leads}
use Rattle.rv_sums.proofs.path_sum.PathSum.join.Goals as goal

pub returns : goal.returns
returns c =
    let path = c.args.path in
    let other = c.in-Some.other in
    let rest = c.add.new.self in
    let old = c.args.self.now in
    join_leads path other c.args.signs rest old _ c.requires.path c.in-Some.ensures (λ e. c.if-other-path.false (sym e))
    c.requires.ends c.requires.part
    (λ x v. c.in_ok-add.ensures x v ∙ ap (xor (odd c.args.signs x v)) (c.of_path-product.ensures.bit x v))
    (c.has_path.ensures c.if-has_path.false) (c.has_path-2.ensures c.if-has_path-2.false)
    (subst (λ (l : List Sum). ArePut other rest l c.in_ok-sums.sums.items) c.deref.ensures.value c.in_ok-sums.ensures)
    (λ x v e.
    c.in_ok-phases.ensures x v (omega arith)
    ∙ c.in_ok-left.ensures x (set v other (odd rest x v)) (omega (arith, length-set v other (odd rest x v)))
    ∙ ap (λ b. power old.phases x (set (set v other (odd rest x v)) path b)) (c.new-none.ensures x (set v other (odd rest x v))))
    refl
