use Rattle.std.proofs.Common.{List, subst}
use Rattle.rv_net.specs.declared.op.Op.{Op}
use Rattle.rv_paths.specs.Paths.{AreSame}
use Rattle.rv_reduce.proofs.Standing.{confirmed}
use Rattle.rv_reduce.proofs.pieces.found.Goals as goal

pub returns-then-same : goal.returns-then-same
returns-then-same c =
    let piece : List Op = c.args.piece.now in
    let ops : List Op = c.in_ok-ops.ops.items in
    let same : AreSame c.args.lines piece ops =
    subst (λ (l : List Op). AreSame c.args.lines piece l) c.deref.ensures.value (c.in_ok-same.ensures c.if-same.true) in
    confirmed c.args.lines piece ops same
