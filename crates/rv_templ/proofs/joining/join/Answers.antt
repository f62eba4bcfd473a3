use Rattle.std.proofs.Common.{◌∙◌, ap}
use Rattle.rv_templ.specs.Pairs.{paired}
use Rattle.rv_templ.proofs.PairSteps.{joined_peres}
use Rattle.rv_templ.proofs.joining.join.Goals as goal

pub returns-in-Peres : goal.returns-in-Peres
returns-in-Peres c = joined_peres c.in-Peres.a c.in-Peres.b c.in-Peres.c c.args.second ∙ ap (λ g. paired g c.args.second) c.in-Peres.ensures.value
