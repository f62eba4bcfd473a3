use Rattle.std.proofs.Common.{Result, Err, [], ap, length}
use Rattle.rv_net.specs.declared.expanding.ExpandFault.{ExpandFault}
use Rattle.rv_net.specs.declared.expanding.ExpandFault.TheVariants.{TooManyOps}
use Rattle.rv_net.specs.declared.net.Net.{Net}
use Rattle.rv_net.specs.declared.net.TheConstants.{MOST_OPS}
use Rattle.rv_near.specs.Near.{near_ops}
use Rattle.rv_cmd.proofs.inside.Limits.{few-by}
use Rattle.rv_cmd.proofs.commands.map.near_network.Goals as goal

abbrev unmapped : ExpandFault → Result Net ExpandFault
unmapped fault = Err fault

pub returns-in-Ok-clause-few : goal.returns-in-Ok-clause-few
returns-in-Ok-clause-few c =
    few-by TooManyOps (length (near_ops c.args.circuit.gates)) MOST_OPS c.in-Ok.net c.in-Ok.ensures.too_many

pub returns-in-Err-TooManyOps-clause-unmade : goal.returns-in-Err-TooManyOps-clause-unmade
returns-in-Err-TooManyOps-clause-unmade c =
    let e = c.in-Err-TooManyOps in
    let why = (e.ensures.too_many e.count).0 (ap unmapped e.field-0-is) in
    c.too_many_ops.ensures (length (near_ops c.args.circuit.gates)) [] [] tt (why.0, why.1)
