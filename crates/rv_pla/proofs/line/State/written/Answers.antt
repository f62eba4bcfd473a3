use Rattle.std.proofs.Common.{arith}
use Rattle.rv_pla.proofs.inside.WrittenLines.{written_next}
use Rattle.rv_pla.proofs.line.State.written.Goals as goal

pub returns : goal.returns
returns c =
    rw (← c.self.view_is)
    (written_next _ c.in-Some-Some.inputs c.in-Some-Some.outputs c.args.number c.args.line.now c.written_term.result c.self.invariant c.in-Some-Some.is-0 c.in-Some-Some.is-1 (omega arith) c.written_term.ensures)
