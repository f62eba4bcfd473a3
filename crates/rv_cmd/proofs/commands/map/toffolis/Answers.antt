use Rattle.std.proofs.Common.{[], length, sym}
use Rattle.rv_expand.specs.Toffoli.{toffoli_ops}
use Rattle.rv_cmd.proofs.commands.map.toffolis.Goals as goal

pub returns-in-Err-clause-unmade : goal.returns-in-Err-clause-unmade
returns-in-Err-clause-unmade c =
    let many = c.in-Err.ensures.too_many in
    c.too_many_ops.ensures (length (toffoli_ops c.args.circuit.gates)) [] [] tt (sym many.0, many.1)
