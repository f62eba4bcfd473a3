use Rattle.std.proofs.Common.{arith}
use Rattle.rv_qasm.proofs.inside.RegisterLaws.{size_small}
use Rattle.rv_qasm.proofs.program.Program.register_size.Goals as goal

pub overflow_cast-result : goal.overflow_cast-result
overflow_cast-result c = omega (arith, size_small c.self.inside.registers c.from.result c.size.result c.size.ensures, c.self.invariant.small)
