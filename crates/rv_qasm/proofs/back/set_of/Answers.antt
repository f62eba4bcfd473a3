use Rattle.std.proofs.Common.{arith}
use Rattle.std.proofs.lemmas.Nat.{one_shl}
use Rattle.rv_qasm.proofs.back.set_of.Goals as goal

pub returns : goal.returns
returns c = one_shl c.args.line 64 (omega arith)
