use Rattle.rv_real.proofs.NameLemmas.{found_is, found_below}
use Rattle.rv_real.proofs.places.line_of_name.Goals as goal

pub returns-clause-exact : goal.returns-clause-exact
returns-clause-exact c = found_is c.args.names.now c.args.name.now c.find.result c.find.ensures.found c.find.ensures.absent

pub returns-clause-below : goal.returns-clause-below
returns-clause-below c = found_below c.args.names.now c.args.name.now c.find.result c.find.ensures.found
