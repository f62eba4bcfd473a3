use Rattle.std.proofs.Common.{set}
use Rattle.rv_terms.specs.Products.{parity}
use Rattle.rv_terms.specs.inside.Put.{IsPut}
use Rattle.rv_terms.proofs.Puts.{put_path}
use Rattle.rv_terms.proofs.phases.Phases.replaced_path.Goals as goal

pub returns : goal.returns
returns c x v lt =
    let with = c.args.with.now.products.items in
    let put : IsPut c.of_path.result with x v x (set v c.args.path (parity with x v)) = rw c.of_path.ensures.alone (put_path c.args.path with x v lt) in
    c.in_ok-phases.ensures x v _ _ put
