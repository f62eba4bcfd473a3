use Rattle.std.proofs.Common.{rules, arith, ◌-◌, ap, ◌∙◌}
use Rattle.rv_terms.proofs.Parities.{parity-push, toggle_back}
use Rattle.rv_terms.specs.Products.{parity}
use Rattle.rv_terms.proofs.sum.toggle.Goals as goal

pub returns-then-eq : goal.returns-then-eq
returns-then-eq c x v =
    toggle_back c.args.made.now.items c.pop.new.self.items c.args.product c.index.result.now (c.len-count.result - 1) x v (omega arith)
    (search rules) (search rules) (search rules)

pub returns-in_ok-push : goal.returns-in_ok-push
returns-in_ok-push c x v =
    ap (λ t. parity t x v) c.in_ok-push.ensures.items ∙ parity-push c.args.made.now.items c.args.product x v
