use Rattle.std.proofs.Common.{refl}
use Rattle.rv_mct.specs.inside.LadderLines.{no_control}
use Rattle.rv_ladder.proofs.Steps.{clean_parts, then}
use Rattle.rv_ladder.proofs.flip.add_clean.Goals as goal

pub returns : goal.returns
returns c =
    then _ _ _ _ _ _ c.in_ok-add_zeros.ensures
    (then _ _ _ _ _ _ c.in_ok-add_clean_flip.ensures c.in_ok-add_zeros-2.ensures refl)
    (clean_parts c.args.controls.now c.args.first c.args.t no_control c.requires.some)
