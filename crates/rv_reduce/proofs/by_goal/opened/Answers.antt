use Rattle.rv_reduce.proofs.Laws.{amplitudes-kept}
use Rattle.rv_reduce.proofs.by_goal.opened.Goals as goal

pub no_worse-requires : goal.no_worse-requires
no_worse-requires c = amplitudes-kept c.args.net c.in_ok-fewer.fewer c.in_ok-fewer.ensures
