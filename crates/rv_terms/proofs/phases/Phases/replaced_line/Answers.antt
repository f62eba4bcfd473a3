use Rattle.std.proofs.Common.{set}
use Rattle.rv_terms.specs.Products.{parity}
use Rattle.rv_terms.specs.inside.Put.{IsPut}
use Rattle.rv_terms.proofs.Puts.{put_line}
use Rattle.rv_terms.proofs.phases.Phases.replaced_line.Goals as goal

pub returns : goal.returns
returns c x v lt =
    let with = c.args.with.now.products.items in
    let put : IsPut c.of_line.result with x v (set x c.args.line (parity with x v)) v = rw c.of_line.ensures.alone (put_line c.args.line with x v lt) in
    c.in_ok-phases.ensures x v _ _ put
