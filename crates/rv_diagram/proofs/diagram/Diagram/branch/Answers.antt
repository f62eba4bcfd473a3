use Rattle.std.proofs.Common.{refl}
use Rattle.rv_diagram.proofs.Values.{keeps_self}
use Rattle.rv_diagram.proofs.Joins.{branch_by}
use Rattle.rv_diagram.proofs.diagram.Diagram.branch.Goals as goal

pub returns-then-has_at-clause-value : goal.returns-then-has_at-clause-value
returns-then-has_at-clause-value c =
    branch_by c.args.self.now c.args.self.now c.number_at-there.result c.args.input c.args.low c.args.high _ c.requires.low c.requires.high (keeps_self c.args.self.now)
    (rw (c.turn.ensures, c.turn-2.ensures) refl) (c.has_at.ensures c.if-has_at.true)

pub returns-clause-value : goal.returns-clause-value
returns-clause-value c =
    rw c.put_number.ensures
    (branch_by c.args.self.now c.add.new.self c.in_ok-number.number c.args.input c.args.low c.args.high _ c.requires.low c.requires.high c.in_ok-number.ensures.keeps
    (rw (c.turn.ensures, c.turn-2.ensures) refl) c.in_ok-number.ensures.number)
