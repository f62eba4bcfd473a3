use Rattle.std.proofs.Common.{refl}
use Rattle.rv_reduce.proofs.ByGoal.{unchanged}
use Rattle.rv_reduce.proofs.by_goal.no_worse.Goals as goal

pub returns-then-is_no_worse : goal.returns-then-is_no_worse
returns-then-is_no_worse c = record { keeps = c.requires; no_worse = c.if-is_no_worse.ensures refl }

pub returns-else-is_no_worse : goal.returns-else-is_no_worse
returns-else-is_no_worse c = unchanged c.args.goal c.args.before c.recall_invariant.ensures
