use Rattle.std.proofs.Common.{[], sym}
use Rattle.rv_net.specs.Network.{operation_count}
use Rattle.rv_cmd.proofs.commands.map.network.Goals as goal

pub returns-in-Err-clause-unmade : goal.returns-in-Err-clause-unmade
returns-in-Err-clause-unmade c =
    let many = c.in-Err.ensures.too_many in
    c.too_many_ops.ensures (operation_count c.args.circuit.gates) [] [] tt (sym many.0, many.1)
