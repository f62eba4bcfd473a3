use Rattle.rv_sums.proofs.inside.Facts.{lacks}
use Rattle.rv_sums.proofs.facts.lacks_line.Goals as goal

pub returns : goal.returns
returns c on x v bit lt =
    lacks c.args.line c.new-none.result c.args.sum.now c.in_ok-without.without c.in_ok-rest.rest c.new-none.ensures c.in_ok-without.ensures
    c.in_ok-rest.ensures (c.is_nought.ensures on) x v bit lt
