use Rattle.rv_compare.specs.declared.comparison.Comparison.TheVariants.{Same}
use Rattle.rv_compute.proofs.Gives.{gives_same}
use Rattle.rv_compute.proofs.certificate.gives.Goals as goal

pub returns-in-Ok-Same : goal.returns-in-Ok-Same
returns-in-Ok-Same c same =
    gives_same c.args.logic.now c.args.circuit.now ((c.in-Ok-Same.ensures.exact Same).0 c.in-Ok-Same.field-0-is)
