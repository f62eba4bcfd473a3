use Rattle.rv_reduce.proofs.ByGoal.{unchanged}
use Rattle.rv_reduce.proofs.by_goal.searched.Goals as goal

pub returns-in-None : goal.returns-in-None
returns-in-None c = unchanged c.args.goal c.args.net c.recall_invariant.ensures
