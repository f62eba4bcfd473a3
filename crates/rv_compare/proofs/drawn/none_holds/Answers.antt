use Rattle.std.proofs.Common.{arith, true}
use Rattle.rv_diagram.proofs.Values.{keeps_self, value_constant}
use Rattle.rv_compare.proofs.inside.Drawn.{none_more}
use Rattle.rv_compare.proofs.drawn.none_holds.Goals as goal

pub loop-product-init : goal.loop-product-init
loop-product-init c = record { keeps = keeps_self c.args.diagram.now; edge = omega arith; value = λ x. value_constant c.args.diagram.now true x }

pub loop-product-preserved : goal.loop-product-preserved
loop-product-preserved c =
    let own = c.args.own.now in
    none_more c.args.diagram.now c.loop-product.diagram c.held.new.self c.and.new.self own c.args.products.now c.loop-product.product-index _
    c.loop-product.none c.in_ok-on.on c.in_ok-none.none c.requires.edges c.loop-product-test.true c.loop-product.invariant
    c.in_ok-on.ensures.keeps c.in_ok-none.ensures.keeps c.in_ok-none.ensures.edge
    (rw (c.from.ensures, c.from-in-loop-product.ensures) at c.in_ok-on.ensures.value)
    (rw c.turn.ensures at c.in_ok-none.ensures.value)
