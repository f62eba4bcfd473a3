use Rattle.rv_reduce.proofs.Laws.{reduces-twice}
use Rattle.rv_reduce.proofs.reducing.reduce.Goals as goal

pub returns : goal.returns
returns c = reduces-twice c.args.net.now c.in_ok-reduced.reduced c.in_ok-opened.opened c.in_ok-reduced.ensures c.in_ok-opened.ensures
