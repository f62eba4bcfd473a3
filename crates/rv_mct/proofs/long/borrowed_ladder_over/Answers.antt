use Rattle.rv_mct.specs.inside.LadderLines.{no_control}
use Rattle.rv_mct.proofs.inside.LongFlips.{over_parts, length_parts}
use Rattle.rv_mct.proofs.inside.Steps.{grown_as}
use Rattle.rv_mct.proofs.long.borrowed_ladder_over.Goals as goal

pub down_up_twice-requires : goal.down_up_twice-requires
down_up_twice-requires c = record {
  few = c.requires.few;
  enough = length_parts c.args.controls.now c.args.free.now c.requires.some c.requires.enough;
  divided = c.requires.divided;
}

pub returns : goal.returns
returns c =
    grown_as c.args.circuit.now c.down_up_twice.new.circuit _ _ c.in_ok-down_up_twice.ensures (over_parts c.args.controls.now c.args.free.now c.args.target no_control c.requires.some)
