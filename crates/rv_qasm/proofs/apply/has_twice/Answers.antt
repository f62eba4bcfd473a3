use Rattle.std.proofs.Common.{arith}
use Rattle.rv_qasm.proofs.inside.GateLaws.{few_apart}
use Rattle.rv_qasm.proofs.apply.has_twice.Goals as goal

pub returns-in_default : goal.returns-in_default
returns-in_default c = few_apart c.args.qubits.now (omega arith)
