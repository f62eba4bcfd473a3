use Rattle.std.proofs.Common.{refl, sym}
use Rattle.rv_gate.proofs.inside.GateLemmas.{fits_flip}
use Rattle.rv_sums.proofs.facts.Facts.past.Goals as goal

pub past_flip-requires-clause-target : goal.past_flip-requires-clause-target
past_flip-requires-clause-target c =
    fits_flip c.args.gate c.in-Flip.care c.in-Flip.want c.in-Flip.target c.args.lines (sym c.in-Flip.ensures.value)
    (c.if-not-fits.ensures.0 refl)
