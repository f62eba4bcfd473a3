use Rattle.std.proofs.Common.{refl, arith}
use Rattle.std.proofs.Math.ListN.{length-set}
use Rattle.rv_sums.proofs.inside.Shorter.{h_leads}
use Rattle.rv_sums.proofs.path_sum.PathSum.h.Goals as goal

pub returns : goal.returns
returns c =
    h_leads c.args.line c.in-Some.path c.from-at.result c.index.result.now c.in_ok-turned.turned c.in_ok-bit.bit
    c.of_path-product.result c.args.self.now _ c.requires c.from-at.ensures c.index.ensures c.in-Some.ensures
    c.of_path-product.ensures.bit c.in_ok-turned.ensures c.in_ok-bit.ensures refl
    (length-set c.args.self.now.sums.items c.from-at.result c.in_ok-bit.bit) c.in_ok-add_sum.ensures (omega arith)
