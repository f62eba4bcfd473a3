use Rattle.std.proofs.Common.{refl}
use Rattle.rv_real.specs.declared.line.State.TheVariants.{Gates}
use Rattle.rv_real.proofs.inside.AllClosed.{gate_line, refused_line}
use Rattle.rv_real.proofs.line.read_after_begin.Goals as goal

pub returns-then-is_ended : goal.returns-then-is_ended
returns-then-is_ended c =
    rw c.first_stop.ensures (refused_line (Gates c.args.circuit.now c.args.is_ended.now) _ _ c.args.line.now _ (rw c.if-is_ended.true refl) c.requires.first)

pub returns-in-Ok-false : goal.returns-in-Ok-false
returns-in-Ok-false c =
    rw c.if-is_ended.false (gate_line c.args.circuit.now c.read_body_line.new.circuit _ _ c.args.line.now (rw c.in-Ok-false.field-0-test at c.in-Ok-false.ensures) c.requires.first)

pub returns-in-Err : goal.returns-in-Err
returns-in-Err c =
    rw c.first_stop-in-Err.ensures
    (refused_line (Gates c.args.circuit.now c.args.is_ended.now) _ _ c.args.line.now c.in-Err.stop (rw c.if-is_ended.false c.in-Err.ensures) c.requires.first)
