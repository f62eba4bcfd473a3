use Rattle.std.proofs.Common.{refl, sym, arith}
use Rattle.rv_gate.proofs.inside.GateLemmas.{fits_flip}
use Rattle.rv_sums.proofs.path_sum.PathSum.with_flip.Goals as goal

pub put_flip-requires-clause-target : goal.put_flip-requires-clause-target
put_flip-requires-clause-target c =
    let below = fits_flip c.args.gate c.in-Flip.care c.in-Flip.want c.in-Flip.target c.len-lines.result (sym c.in-Flip.ensures.value) (c.if-not-fits.ensures.0 refl) in
    omega (arith, below, c.len-lines.ensures)
