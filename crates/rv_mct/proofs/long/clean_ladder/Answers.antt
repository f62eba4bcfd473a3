use Rattle.rv_mct.specs.inside.LadderLines.{no_control}
use Rattle.rv_mct.proofs.inside.LongFlips.{clean_ladder_parts}
use Rattle.rv_mct.proofs.inside.Steps.{grown_as}
use Rattle.rv_mct.proofs.long.clean_ladder.Goals as goal

pub returns : goal.returns
returns c =
    grown_as c.args.circuit.now c.ladder.new.circuit _ _ c.in_ok-ladder.ensures (clean_ladder_parts c.args.controls.now c.args.first c.args.target no_control c.requires.some)
