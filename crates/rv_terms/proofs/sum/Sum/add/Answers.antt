use Rattle.std.proofs.Common.{rules, arith, ap, ◌∙◌}
use Rattle.rv_terms.specs.Products.{parity}
use Rattle.rv_terms.proofs.Parities.{parity-insert, remove_same}
use Rattle.rv_terms.proofs.sum.Sum.add.Goals as goal

pub returns-then-eq : goal.returns-then-eq
returns-then-eq c x v =
    remove_same c.args.self.now.products.items c.remove.new.self.items c.args.product c.index.result.now c.place_of-place.result x v
    (omega arith) (search rules) (search rules) c.remove.ensures.items

pub returns-in_ok-insert : goal.returns-in_ok-insert
returns-in_ok-insert c x v =
    ap (λ t. parity t x v) c.in_ok-insert.ensures.items
    ∙ parity-insert c.args.self.now.products.items c.place_of-place.result c.args.product x v
