use Rattle.std.proofs.Common.{refl}
use Rattle.std.proofs.Math.ListN.{length-set}
use Rattle.rv_sums.proofs.inside.States.{is_flipped}
use Rattle.rv_sums.proofs.path_sum.PathSum.flip.Goals as goal

pub returns : goal.returns
returns c =
    is_flipped c.args.line c.from-at.result c.index.result.now c.in_ok-next.next c.args.with.now c.args.self.now _ c.requires
    c.from-at.ensures c.index.ensures c.in_ok-next.ensures refl (length-set c.args.self.now.sums.items c.from-at.result c.in_ok-next.next) refl refl
