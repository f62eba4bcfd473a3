use Rattle.std.proofs.Common.{rules, ap, sym, ◌∙◌}
use Rattle.rv_gate.specs.Gate.{xor}
use Rattle.rv_terms.specs.Products.{parity}
use Rattle.rv_terms.proofs.Parities.{parity-push}
use Rattle.rv_terms.proofs.Puts.{put_off}
use Rattle.rv_terms.proofs.sum.add_replaced.Goals as goal

pub returns-in_ok-push : goal.returns-in_ok-push
returns-in_ok-push c x v y w put =
    ap (λ t. parity t x v) c.in_ok-push.ensures.items ∙ parity-push c.args.made.now.items c.args.product x v
    ∙ ap (xor (parity c.args.made.now.items x v)) (sym (put_off c.args.product c.args.bit c.args.with.now x v y w (search rules) put))
