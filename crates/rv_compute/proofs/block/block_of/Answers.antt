use Rattle.std.proofs.Common.{◌≡◌, ℕ, List, length, take, sym, subst, arith}
use Rattle.std.proofs.lemmas.List.{take_more}
use Rattle.rv_blif.specs.declared.product.Product.{Product}
use Rattle.rv_gate.specs.declared.gate.Shape.{Shape}
use Rattle.rv_compute.specs.inside.Blocks.{Adds, AreFew}
use Rattle.rv_compute.proofs.inside.Adding.{HaveAdded, adds_none, adds_all, few_none}
use Rattle.rv_compute.proofs.block.block_of.Goals as goal

pub loop-product-init : goal.loop-product-init
loop-product-init c =
    let P : List Shape → Type 0 = λ g. HaveAdded c.args.lines c.args.places.now c.args.target c.args.products.now 0 g in
    subst P (sym c.new-gates.ensures.items) (record {
      adds = adds_none c.args.lines c.args.places.now c.args.target;
      few = λ there. few_none c.args.lines;
    })

pub loop-product-preserved : goal.loop-product-preserved
loop-product-preserved c = record {
  adds =
      subst (λ (l : List Product). Adds c.args.lines c.args.places.now c.args.target l c.push_product.new.gates.items)
      (sym (take_more c.args.products.now c.loop-product.product-index _ c.loop-product-test.true))
      ((c.in_ok-push_product.ensures.adds c.if-not-branch.false).more
      (take c.loop-product.product-index c.args.products.now) c.loop-product.invariant.adds);
  few = λ there. c.in_ok-push_product.ensures.few there c.loop-product.product-index (c.loop-product.invariant.few there);
}

pub returns-clause-adds : goal.returns-clause-adds
returns-clause-adds c =
    adds_all c.args.lines c.args.places.now c.args.target c.args.products.now c.loop-product.product-index
    c.loop-product.gates.items c.loop-product-test.false c.loop-product.invariant.adds

pub returns-clause-few : goal.returns-clause-few
returns-clause-few c there =
    let all = c.loop-product-test.false in
    let most = c.loop-product.auto.product-index-end in
    let same : c.loop-product.product-index ≡ length c.args.products.now = omega arith in
    subst (λ (n : ℕ). AreFew c.args.lines n c.loop-product.gates.items) same (c.loop-product.invariant.few there)
