use Rattle.std.proofs.Common.{◌∙◌}
use Rattle.rv_mct.proofs.Names.{taken_from_find}
use Rattle.rv_mct.proofs.widening.is_taken.Goals as goal

pub returns : goal.returns
returns c = c.is_some.ensures ∙ taken_from_find c.args.names.now c.args.name.now c.find.result c.find.ensures.absent.0 c.find.ensures.absent.1
