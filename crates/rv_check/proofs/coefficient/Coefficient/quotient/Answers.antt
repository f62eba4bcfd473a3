use Rattle.std.proofs.Common.{◌∙◌, sym, ap, rules}
use mir.Syntax.{w128}
use Rattle.rv_net.proofs.Cyclotomic.{same_cyclotomic}
use Rattle.rv_check.proofs.Coefficients.{quotient_is, half_of_sum, half_of_difference}
use Rattle.rv_check.proofs.coefficient.Coefficient.quotient.Goals as goal

pub returns : goal.returns
returns c =
    let a = ap (λ u. u.a) c.self.view_is in
    let b = ap (λ u. u.b) c.self.view_is in
    let cc = ap (λ u. u.c) c.self.view_is in
    let d = ap (λ u. u.d) c.self.view_is in
    same_cyclotomic _ _
    (half_of_difference w128 _ _ _ _ _ c.half_difference.ensures (search rules) (search rules) (search rules) b d)
    (half_of_sum w128 _ _ _ _ _ c.half_sum.ensures (search rules) (search rules) (search rules) a cc)
    (half_of_sum w128 _ _ _ _ _ c.half_sum-2.ensures (search rules) (search rules) (search rules) b d)
    (half_of_difference w128 _ _ _ _ _ c.half_difference-2.ensures (search rules) (search rules) (search rules) cc a)
    ∙ sym (quotient_is c.args.self)
