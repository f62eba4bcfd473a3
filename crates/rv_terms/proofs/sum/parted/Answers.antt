use Rattle.std.proofs.Common.{◌≡◌, ◌&&◌, List, [], ◌∷◌, ◌++◌, get_or, ap, sym, ◌∙◌}
use Rattle.rv_gate.specs.Gate.{xor}
use Rattle.rv_terms.specs.Products.{parity, always}
use Rattle.rv_terms.specs.declared.product.Product.{Product}
use Rattle.rv_terms.proofs.Puts.{parted_on, parted_off}
use Rattle.rv_terms.proofs.sum.parted.Goals as goal
use Rattle.rv_terms.proofs.sum.parted.Goals.{then-meets+in_ok-push, else-meets+in_ok-push-2}

pub loop-product-preserved : goal.loop-product-preserved
loop-product-preserved c given x v y w put =
    let with = c.loop-product.with.items in
    let rest = c.loop-product.rest.items in
    elim c.if-meets.branch [
      | then-meets+in_ok-push b ↦
          (let e : c.if-meets.with.items ≡ with ++ b.less.result ∷ [] = cc (b.with-is, b.in_ok-push.ensures.items) in
          let f : c.if-meets.rest.items ≡ rest = cc b.rest-is in
          parted_on c.args.products.now with rest given c.args.bit b.less.result _ c.loop-product.product-index x v y w
          c.loop-product-test.true (sym c.meets.ensures ∙ b.if-meets.true) b.less.ensures put
          (c.loop-product.invariant given x v y w put)
          ∙ ap (λ (t : List Product). xor (parity t x v && parity given x v) (parity rest x v)) (sym e)
          ∙ ap (λ (t : List Product). xor (parity c.if-meets.with.items x v && parity given x v) (parity t x v)) (sym f))
      | else-meets+in_ok-push-2 b ↦
          (let e : c.if-meets.with.items ≡ with = cc b.with-is in
          let f = b.in_ok-push-2.ensures.items in
          let g : c.if-meets.rest.items ≡ b.push-else-meets.new.self.items = cc b.rest-is in
          parted_off c.args.products.now with rest given c.args.bit always c.loop-product.product-index x v y w
          c.loop-product-test.true (sym c.meets.ensures ∙ b.if-meets.false) put
          (c.loop-product.invariant given x v y w put)
          ∙ ap (λ (t : List Product). xor (parity t x v && parity given x v) (parity (rest ++ get_or c.args.products.now c.loop-product.product-index always ∷ []) x v)) (sym e)
          ∙ ap (λ (t : List Product). xor (parity c.if-meets.with.items x v && parity given x v) (parity t x v)) (sym (g ∙ f)))
    ]
