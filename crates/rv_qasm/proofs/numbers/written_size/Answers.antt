use Rattle.std.proofs.Common.{arith}
use Rattle.rv_qasm.proofs.inside.GateLaws.{counted, counted_small}
use Rattle.rv_qasm.proofs.numbers.written_size.Goals as goal

pub overflow_cast-result : goal.overflow_cast-result
overflow_cast-result c = omega (arith, counted_small c.args.bytes.now c.in-Some.n c.in-Some.ensures.0 c.in-Some.ensures.1 (omega arith))

pub returns-in-Some : goal.returns-in-Some
returns-in-Some c = counted c.args.bytes.now c.in-Some.n c.in-Some.ensures.0 c.in-Some.ensures.1 (omega arith) (omega arith)
