use Rattle.rv_realize.proofs.Curves.{realized_more}
use Rattle.rv_realize.proofs.points.with_point.Goals as goal

pub returns-clause-realized : goal.returns-clause-realized
returns-clause-realized c =
    rw c.in_ok-push-2.ensures.items
    (realized_more c.args.pla.now c.args.options.lines c.args.points.items c.args.new c.requires.points c.requires.new)
