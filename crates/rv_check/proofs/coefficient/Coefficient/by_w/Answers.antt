use Rattle.std.proofs.Common.{ap, arith}
use Rattle.std.proofs.lemmas.Int.{ints}
use Rattle.rv_net.specs.Cyclotomic.{times_w}
use Rattle.rv_net.proofs.Cyclotomic.{same_cyclotomic}
use Rattle.rv_check.proofs.coefficient.Coefficient.by_w.Goals as goal

pub returns-clause-value : goal.returns-clause-value
unfolding times_w
returns-clause-value c =
    same_cyclotomic _ _
    (omega (arith, ints, ap (λ u. u.d) c.self.view_is))
    (omega (arith, ints, ap (λ u. u.a) c.self.view_is))
    (omega (arith, ints, ap (λ u. u.b) c.self.view_is))
    (omega (arith, ints, ap (λ u. u.c) c.self.view_is))
