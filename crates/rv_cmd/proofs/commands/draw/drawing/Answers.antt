use Rattle.rv_cmd.proofs.Laws.Draw.{draw-answers}
use Rattle.rv_cmd.proofs.commands.draw.drawing.Goals as goal

pub returns : goal.returns
returns c = draw-answers c.args.picture c.args.wrap c.args.circuit c.recall_invariant.ensures
