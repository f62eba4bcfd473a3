use Rattle.rv_compute.proofs.Gives.{gives, gives_found}
use Rattle.rv_compute.proofs.circuit.on_lines.Goals as goal

pub returns-in-Some-clause-gives : goal.returns-in-Some-clause-gives
returns-in-Some-clause-gives c =
    gives_found c.args.logic.now _ c.in_ok-circuit.field-0 c.in-Some.circuit c.in-Some.is c.in_ok-circuit.ensures

pub returns-clause-gives : goal.returns-clause-gives
returns-clause-gives c = gives c.args.logic.now c.in_ok-circuit-2.circuit c.in_ok-circuit-2.ensures.computed
