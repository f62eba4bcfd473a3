use Rattle.std.proofs.Common.{sym, ap, ◌∙◌}
use Rattle.rv_real.specs.Header.{line_of_name}
use Rattle.rv_real.specs.Body.{has_sign, without_sign}
use Rattle.rv_real.proofs.inside.OperandLemmas.{sign_refused}
use Rattle.rv_real.proofs.operands.operand_of.Goals as goal

pub returns-then-not-is_control-clause-gives : goal.returns-then-not-is_control-clause-gives
returns-then-not-is_control-clause-gives c = λ closed.
    rw c.if-quoted.false (sign_refused (line_of_name c.args.names.now (without_sign c.args.operand.now)) c.in-Some.line (has_sign c.args.operand.now) c.args.is_control (ap (line_of_name c.args.names.now) (sym c.without_sign.ensures) ∙ sym c.in-Some.ensures.exact) (sym c.if-is_negative.ensures) c.if-not-is_control.true)
