use Rattle.std.proofs.Common.{arith}
use Rattle.rv_diagram.proofs.inside.Copying.{copied_turned}
use Rattle.rv_diagram.proofs.copies.copied.Goals as goal

pub returns : goal.returns
returns c = λ old new are.
    rw c.turn.ensures (copied_turned old new c.args.edge _ (are c.args.edge.node _ (omega (arith, c.if-place-copies.false)) (omega (arith, c.if-made-eq0.false))))
