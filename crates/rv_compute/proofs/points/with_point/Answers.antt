use Rattle.rv_compute.proofs.Curves.{computed_more}
use Rattle.rv_compute.proofs.points.with_point.Goals as goal

pub returns-clause-computed : goal.returns-clause-computed
returns-clause-computed c =
    rw c.in_ok-push-2.ensures.items
    (computed_more c.args.logic.now c.args.options.lines c.args.points.items c.args.new c.requires.points c.requires.new)
