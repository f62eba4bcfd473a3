use Rattle.std.proofs.Common.{arith, sym}
use Rattle.rv_real.specs.inside.Kept.{directives_in}
use Rattle.rv_real.proofs.inside.HeaderKept.{IsHeader-numvars}
use Rattle.rv_real.proofs.header.Header.read_numvars.Goals as goal

pub invariant_of-self : goal.invariant_of-self
invariant_of-self c = IsHeader-numvars (directives_in c.self.inside) c.in-Some-count_of.lines c.self.invariant (sym c.if-is_some.ensures) (omega (arith, c.in-Some-count_of.ensures.some)) (omega arith)
