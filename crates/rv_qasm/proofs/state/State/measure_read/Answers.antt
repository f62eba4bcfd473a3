use Rattle.std.proofs.Common.{option_map}
use Rattle.rv_qasm.proofs.inside.GateLaws.{measure_is}
use Rattle.rv_qasm.specs.inside.Views.{named}
use Rattle.rv_qasm.proofs.state.State.measure_read.Goals as goal

pub returns : goal.returns
returns c =
    rw (measure_is c.args.self.now c.args.tokens.now c.first_of-arrow.result (option_map named c.register_operand.result) (option_map named c.operand_after.result) c.first_of-arrow.ensures.exact c.register_operand.ensures c.operand_after.ensures)
    c.both_read.ensures
