use Rattle.std.proofs.Common.{arith}
use Rattle.rv_qasm.proofs.inside.WrittenLines.{one_digit_read, two_digits_read}
use Rattle.rv_qasm.proofs.written.number_from.Goals as goal

pub returns-then-first-eq0-clause-text : goal.returns-then-first-eq0-clause-text
returns-then-first-eq0-clause-text c = λ before is. one_digit_read before _ c.args.first c.requires.digit is

pub returns-in-Some-clause-text : goal.returns-in-Some-clause-text
returns-in-Some-clause-text c = λ before is.
    two_digits_read before _ _ c.args.first c.in-Some.second (omega (arith, c.if-first-eq0.false)) c.requires.digit c.in-Some.ensures.digit is c.in-Some.ensures.text

pub returns-in-None-clause-text : goal.returns-in-None-clause-text
returns-in-None-clause-text c = λ before is. one_digit_read before _ c.args.first c.requires.digit is
