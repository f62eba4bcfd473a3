use Rattle.rv_reduce.proofs.Laws.{amplitudes-kept}
use Rattle.rv_reduce.proofs.by_goal.tidied.Goals as goal

pub no_worse-requires : goal.no_worse-requires
no_worse-requires c = amplitudes-kept c.args.net c.in_ok-reduced.reduced c.in_ok-reduced.ensures.keeps
