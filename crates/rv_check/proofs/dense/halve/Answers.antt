use Rattle.std.proofs.Common.{◌-◌, ◌*◌, ◌^◌, ◌∙◌, ap, arith}
use Rattle.std.proofs.lemmas.List.Elements.{All-map, All-same, All-weaker}
use Rattle.rv_check.specs.Reduced.{reduced}
use Rattle.rv_check.specs.inside.Dense.{halved_by, left}
use Rattle.rv_check.specs.inside.Small.{AreSmall}
use Rattle.rv_check.proofs.inside.Shifts.{all_low, shifted_all, shifted_small}
use Rattle.rv_check.proofs.dense.halve.Goals as goal

pub returns-clause-small : goal.returns-clause-small
returns-clause-small c =
    let does = halved_by c.min-times.result in
    All-same (AreSmall (2 ^ 61)) _ _ c.halve_all.ensures
    (All-map (AreSmall (2 ^ 61)) does c.args.values.now
    (All-weaker (AreSmall (2 ^ 61)) (λ u. AreSmall (2 ^ 61) (does u)) (λ u h. shifted_small c.min-times.result (2 ^ 61) u h) c.args.values.now c.requires))

pub returns-clause-values : goal.returns-clause-values
returns-clause-values c =
    let n = c.min-times.result in
    let low = all_low n c.bits_in_all.result c.args.values.now c.bits_in_all.ensures c.bits_in_all.type_inv (omega (arith, c.min.ensures, c.min-times.ensures)) in
    ap (reduced (c.args.exponent - 2 * n)) c.halve_all.ensures ∙ (shifted_all n c.args.exponent c.args.values.now (omega (arith, c.min.ensures, c.min-times.ensures)) low).0

pub returns-clause-exponent : goal.returns-clause-exponent
returns-clause-exponent c =
    let n = c.min-times.result in
    let low = all_low n c.bits_in_all.result c.args.values.now c.bits_in_all.ensures c.bits_in_all.type_inv (omega (arith, c.min.ensures, c.min-times.ensures)) in
    ap (left (c.args.exponent - 2 * n)) c.halve_all.ensures ∙ (shifted_all n c.args.exponent c.args.values.now (omega (arith, c.min.ensures, c.min-times.ensures)) low).1
