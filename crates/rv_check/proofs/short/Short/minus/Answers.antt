use Rattle.std.proofs.Common.{ap, arith}
use Rattle.std.proofs.lemmas.Int.{ints}
use Rattle.rv_net.proofs.Cyclotomic.{same_cyclotomic}
use Rattle.rv_check.specs.inside.Dense.{minus}
use Rattle.rv_check.proofs.short.Short.minus.Goals as goal

pub returns : goal.returns
unfolding minus
returns c =
    same_cyclotomic _ _
    (omega (arith, ints, c.difference.ensures, ap (λ u. u.a) c.self.view_is, ap (λ u. u.a) c.other.view_is))
    (omega (arith, ints, c.difference-2.ensures, ap (λ u. u.b) c.self.view_is, ap (λ u. u.b) c.other.view_is))
    (omega (arith, ints, c.difference-3.ensures, ap (λ u. u.c) c.self.view_is, ap (λ u. u.c) c.other.view_is))
    (omega (arith, ints, c.difference-4.ensures, ap (λ u. u.d) c.self.view_is, ap (λ u. u.d) c.other.view_is))
