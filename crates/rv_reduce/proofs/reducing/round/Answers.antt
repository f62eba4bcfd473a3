use Rattle.rv_reduce.proofs.Laws.{round-reduces}
use Rattle.rv_reduce.proofs.reducing.round.Goals as goal

pub returns : goal.returns
returns c =
    round-reduces c.args.net c.in_ok-folded.folded c.in_ok-joined.joined c.in_ok-next.next c.in_ok-folded.ensures c.in_ok-joined.ensures c.in_ok-next.ensures.cancelled
