use Rattle.std.proofs.Common.{refl}
use Rattle.rv_diagram.proofs.Joins.{plain_xor}
use Rattle.rv_diagram.proofs.operation.plain.Goals as goal

pub returns-in-Xor : goal.returns-in-Xor
returns-in-Xor c = rw c.in-Xor.is (plain_xor c.args.f c.args.g _ c.turn.ensures c.turn-in-Xor.ensures refl)
