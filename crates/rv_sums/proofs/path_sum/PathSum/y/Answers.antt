use Rattle.rv_sums.proofs.inside.Moves.{y_leads}
use Rattle.rv_sums.proofs.path_sum.PathSum.y.Goals as goal

pub returns : goal.returns
returns c =
    y_leads c.args.line c.in_ok-one.one c.args.self.now c.turn.new.self c.turn_line.new.self c.flip.new.self
    c.in_ok-one.ensures c.in_ok-turn.ensures c.in_ok-turn_line.ensures c.in_ok-flip.ensures
