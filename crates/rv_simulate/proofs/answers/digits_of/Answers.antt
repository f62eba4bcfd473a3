use Rattle.std.proofs.Common.{◌∙◌, arith}
use Rattle.rv_simulate.proofs.inside.Digits.{digits_spread}
use Rattle.rv_simulate.proofs.answers.digits_of.Goals as goal

pub returns : goal.returns
returns c = (rw (c.from.ensures, c.from-2.ensures) at c.to_le_bytes.ensures) ∙ digits_spread c.args.lines (omega (arith, c.ranges.lines.fits))
