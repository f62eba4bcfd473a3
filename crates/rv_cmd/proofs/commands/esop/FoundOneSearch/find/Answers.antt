use Rattle.rv_cmd.proofs.Laws.Esop.{not_listed-found, not_listed-limits}
use Rattle.rv_cmd.proofs.commands.esop.FoundOneSearch.find.Goals as goal

pub returns-in-Pla-clause-made : goal.returns-in-Pla-clause-made
returns-in-Pla-clause-made c = rw c.in-Pla.is c.cubes.ensures.made

pub returns-in-Pla-clause-unmade : goal.returns-in-Pla-clause-unmade
returns-in-Pla-clause-unmade c = rw c.in-Pla.is c.cubes.ensures.unmade
