use Rattle.rv_optimal.proofs.inside.Walking.{all_lines}
use Rattle.rv_optimal.proofs.alike.Alike.of.Goals as goal

pub returns-then-stay-3 : goal.returns-then-stay-3
returns-then-stay-3 c =
    (c.if-lines-eq4.true, all_lines c.args.moves.now (c.stay.ensures c.if-stay.true) (c.stay-then-stay.ensures c.if-stay-2.true) (c.stay-then-stay-2.ensures c.if-stay-3.true))
