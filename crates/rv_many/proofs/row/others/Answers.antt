use Rattle.std.proofs.Common.{not, sym, ap, ◌∙◌}
use Rattle.rv_many.proofs.Rows.{has-ones}
use Rattle.rv_many.proofs.row.others.Goals as goal

pub returns-else-bit : goal.returns-else-bit
returns-else-bit c j lt = has-ones j lt ∙ sym (ap not c.if-bit.false)
