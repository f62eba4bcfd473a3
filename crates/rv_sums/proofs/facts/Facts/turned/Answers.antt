use Rattle.std.proofs.Common.{List, refl, ap, ◌∙◌, arith, subst}
use Rattle.rv_gate.specs.Gate.{xor}
use Rattle.rv_terms.specs.Products.{odd}
use Rattle.std.proofs.Math.ListN.{length-set}
use Rattle.rv_terms.specs.declared.sum.Sum.{Sum}
use Rattle.rv_sums.specs.inside.State.{AreTurned}
use Rattle.rv_sums.proofs.inside.Facts.{turned_own}
use Rattle.rv_sums.proofs.facts.Facts.turned.Goals as goal

pub returns : goal.returns
returns c u y lt back h =
    turned_own c.args.line c.from-at.result c.args.with.now c.index.result.now c.in_ok-own.own c.add.new.self c.args.self.now.sums.items
    c.in_ok-sums.sums.items _ u y
    (subst (λ (l : List Sum). AreTurned c.args.line c.args.with.now l c.in_ok-sums.sums.items) c.deref.ensures.value c.in_ok-sums.ensures)
    c.from-at.ensures lt (omega arith) back c.index.ensures (c.in_ok-own.ensures y)
    (λ v. c.in_ok-add.ensures y v ∙ ap (xor (odd c.in_ok-own.own y v)) (c.of_line-product.ensures.bit y v)) refl
    (length-set c.in_ok-sums.sums.items c.from-at.result c.add.new.self) h
