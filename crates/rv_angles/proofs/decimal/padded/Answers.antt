use Rattle.std.proofs.Common.{arith, ◌*◌, ◌∙◌, ap, min, sym}
use Rattle.rv_angles.specs.declared.decimal.TheConstants.{MOST_UNITS}
use Rattle.rv_angles.proofs.Decimals.{padded_none, padded_more}
use Rattle.rv_angles.proofs.decimal.padded.Goals as goal

pub loop-place-init : goal.loop-place-init
loop-place-init c = (padded_none c.args.value, c.requires)

pub loop-place-preserved : goal.loop-place-preserved
loop-place-preserved c =
    (c.min-units.ensures ∙ ap (λ u. min (u * 10) MOST_UNITS) c.loop-place.invariant.0 ∙ sym (padded_more c.loop-place.place c.args.value), omega (arith, c.min-units.ensures))
