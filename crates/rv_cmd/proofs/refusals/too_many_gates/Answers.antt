use Rattle.std.proofs.Common.{◌<◌, ap, subst, sym}
use Rattle.rv_gate.specs.declared.circuit.TheConstants.{MOST_GATES}
use Rattle.rv_faults.specs.declared.fault.InputFault.TheVariants.{TooManyGates}
use Rattle.rv_cmd.proofs.refusals.too_many_gates.Goals as goal

pub returns : goal.returns
returns c gates first rest kept told =
    c.passed.ensures gates MOST_GATES (TooManyGates gates MOST_GATES) first rest kept (ap (λ n. TooManyGates n MOST_GATES) told.0, subst (λ n. MOST_GATES < n) (sym told.0) told.1)
