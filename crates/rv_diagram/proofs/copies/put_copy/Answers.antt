use Rattle.rv_diagram.proofs.inside.Copying.{copies_set}
use Rattle.rv_diagram.proofs.copies.put_copy.Goals as goal

pub returns-then-place-copies : goal.returns-then-place-copies
returns-then-place-copies c = λ old new are is. copies_set old new c.args.copies.now c.args.number c.args.made c.if-place-copies.true is are
