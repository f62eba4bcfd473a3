use Rattle.std.proofs.Common.{◌<◌, ap, subst, sym}
use Rattle.rv_net.specs.declared.net.TheConstants.{MOST_OPS}
use Rattle.rv_faults.specs.declared.fault.InputFault.TheVariants.{TooManyOps}
use Rattle.rv_cmd.proofs.refusals.too_many_ops.Goals as goal

pub returns : goal.returns
returns c ops first rest kept told =
    c.passed.ensures ops MOST_OPS (TooManyOps ops MOST_OPS) first rest kept (ap (λ n. TooManyOps n MOST_OPS) told.0, subst (λ n. MOST_OPS < n) (sym told.0) told.1)
