use Rattle.rv_reduce.proofs.Laws.{keeps-reduces, reduces-itself}
use Rattle.rv_reduce.proofs.reducing.opened.Goals as goal

pub returns-then-ops : goal.returns-then-ops
returns-then-ops c = reduces-itself c.args.net c.recall_invariant.ensures c.requires

pub returns-then-is_no_worse : goal.returns-then-is_no_worse
returns-then-is_no_worse c = keeps-reduces c.args.net c.in_ok-fewer.fewer c.in_ok-other.other c.in_ok-fewer.ensures c.in_ok-other.ensures

pub returns-else-is_no_worse : goal.returns-else-is_no_worse
returns-else-is_no_worse c = reduces-itself c.args.net c.recall_invariant.ensures c.requires
