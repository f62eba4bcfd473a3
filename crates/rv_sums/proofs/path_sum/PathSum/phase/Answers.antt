use Rattle.rv_sums.proofs.inside.Moves.{phase_leads}
use Rattle.rv_sums.proofs.path_sum.PathSum.phase.Goals as goal

pub returns : goal.returns
returns c =
    phase_leads c.args.op c.args.line c.args.weight c.args.self.now c.turn_line.new.self c.requires.op c.in_ok-turn_line.ensures
