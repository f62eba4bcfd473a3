use Rattle.std.proofs.Common.{rules, arith, get_or, ◌≡◌, ◌+◌, ◌-◌, ◌%◌, cond, List, take, length, refl, sym, ◌∙◌, ap}
use Rattle.rv_terms.specs.Products.{parity, always}
use Rattle.rv_terms.specs.Phases.{power}
use Rattle.rv_terms.specs.declared.product.Product.{Product}
use Rattle.std.proofs.Common.{drop}
use Rattle.std.proofs.lemmas.List.{take_rest}
use Rattle.rv_terms.proofs.Products.{value-always}
use Rattle.rv_terms.proofs.Powers.{with_one, less_eight, first_one}
use Rattle.rv_terms.proofs.phases.Phases.add_sum.Goals as goal

pub returns-in_ok-add_rest : goal.returns-in_ok-add_rest
returns-in_ok-add_rest c x v =
    let all = c.deref.result.now in
    let old = power c.args.self.now x v in
    let weight = c.args.weight in
    let first : get_or all 0 always ≡ always = search rules in
    let a = c.in_ok-add.ensures x v ∙ ap (λ t. (old + cond t (weight % 8) 0) % 8) (value-always x v) in
    let rest = parity (take (length all - 1) (drop 1 all)) x v in
    with_one rest (power c.add_rest.new.self x v) (power c.add.new.self x v) old (weight % 8) weight refl a (c.in_ok-add_rest.ensures x v)
    ∙ ap (λ b. (old + cond b weight 0) % 8)
    (sym (first_one all (take (length all - 1) (drop 1 all)) x v (omega arith) first (take_rest all 1))
    ∙ ap (λ (t : List Product). parity t x v) c.deref.ensures.value)

pub returns-in_ok-add_rest-2 : goal.returns-in_ok-add_rest-2
returns-in_ok-add_rest-2 c x v =
    less_eight (parity c.deref.result.now x v) (power c.add_rest-else-products-gt0.new.self x v) (power c.args.self.now x v) c.args.weight
    (c.in_ok-add_rest-2.ensures x v)
    ∙ ap (λ (t : List Product). (power c.args.self.now x v + cond (parity t x v) c.args.weight 0) % 8) c.deref.ensures.value
