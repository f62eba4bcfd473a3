use Rattle.std.proofs.Common.{Result, Err, ap, arith}
use Rattle.rv_net.specs.declared.expanding.ExpandFault.{ExpandFault}
use Rattle.rv_net.specs.declared.net.Net.{Net}
use Rattle.rv_flow.proofs.summary.expanded.Goals as goal

abbrev failed : ExpandFault → Result Net ExpandFault
failed fault = Err fault

pub unreachable-requires : goal.unreachable-requires
unreachable-requires c =
    let e = c.in-Err-TooManyOps in
    let why = (e.ensures.too_many e.field-0-0).0 (ap failed e.field-0-is) in
    omega (arith, why.0, why.1, c.requires.few)
