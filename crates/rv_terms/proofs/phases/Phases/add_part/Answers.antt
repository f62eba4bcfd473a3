use Rattle.std.proofs.Common.{◌+◌, ◌-◌, ◌*◌, ◌%◌, Bool, ◌&&◌, cond, List, [], ◌∷◌, refl, sym, ◌∙◌, ap}
use Rattle.rv_gate.specs.Gate.{xor}
use Rattle.rv_terms.specs.Products.{parity, odd, always}
use Rattle.rv_terms.specs.Phases.{power}
use Rattle.rv_terms.specs.declared.product.Product.{Product}
use Rattle.rv_terms.proofs.Powers.{lifted_part}
use Rattle.rv_terms.proofs.Puts.{single}
use Rattle.rv_terms.proofs.phases.Phases.add_part.Goals as goal

pub returns : goal.returns
returns c x v y w z u off on =
    let e = c.in_ok-with.ensures [] x v y w off in
    let o = c.in_ok-with.ensures (always ∷ []) x v z u on in
    let q = c.in_ok-add_all.ensures x v in
    let r = c.in_ok-add_all-2.ensures x v in
    let with = odd c.in_ok-with.with x v in
    let rest = odd c.in_ok-with.rest x v in
    let p = power c.args.self.now x v in
    let sum = c.args.kept.now.sum.products.items in
    let same = c.deref.ensures.value in
    lifted_part with rest (parity sum z u) (parity sum y w) p (power c.add_all.new.self x v) (power c.add_all-2.new.self x v)
    c.args.kept.now.weight ((16 - c.args.kept.now.weight % 8 * 2) % 8) refl
    (ap (λ (t : List Product). parity t y w) (sym same) ∙ e)
    (ap (λ (t : List Product). parity t z u) (sym same) ∙ o ∙ ap (λ b. xor (with && b) rest) (single x v))
    (q ∙ ap (λ (t : List Product). (p + cond (parity t x v) c.args.kept.now.weight 0) % 8) c.deref-2.ensures.value)
    (r ∙ ap (λ (b : Bool). (power c.add_all.new.self x v + cond b ((16 - c.args.kept.now.weight % 8 * 2) % 8) 0) % 8)
    (ap (λ (t : List Product). parity t x v) c.deref-3.ensures.value ∙ c.in_ok-both.ensures x v))
