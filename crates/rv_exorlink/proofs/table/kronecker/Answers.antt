use Rattle.rv_exorlink.proofs.inside.Tables.{value_filled, terms_filled}
use Rattle.rv_exorlink.proofs.table.kronecker.Goals as goal

pub returns-clause-value : goal.returns-clause-value
returns-clause-value c =
    λ word len. value_filled c.args.inputs c.args.values.now c.new-cubes.result.items c.fill.new.cubes.items word
    c.in_ok-fill.ensures c.new-cubes.ensures.items len

pub returns-clause-terms : goal.returns-clause-terms
returns-clause-terms c =
    λ outputs small. terms_filled c.args.inputs outputs c.args.values.now c.new-cubes.result.items
    c.fill.new.cubes.items c.in_ok-fill.ensures c.new-cubes.ensures.items small
