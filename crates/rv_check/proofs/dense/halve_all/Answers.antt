use Rattle.std.proofs.Common.{◌≡◌, ◌∙◌, set, sym, ap}
use Rattle.std.proofs.lemmas.List.Edits.{map_over_more}
use Rattle.rv_check.specs.inside.Dense.{halved_by}
use Rattle.rv_check.proofs.dense.halve_all.Goals as goal

pub loop-value-preserved : goal.loop-value-preserved
loop-value-preserved c =
    let does = halved_by c.args.times in
    let is : c.halved.result ≡ does c.value-item.result = c.halved.ensures ∙ ap does (sym c.value-item.is) in
    ap (set c.loop-value.values c.loop-value.value-index) is
    ∙ map_over_more does c.args.values.now c.loop-value.values c.loop-value.value-index c.value-item.result c.loop-value-test.true c.loop-value.invariant c.value-item.is
