use Rattle.std.proofs.Common.{◌≡◌, ◌∙◌, set, sym, ap}
use Rattle.std.proofs.lemmas.List.Edits.{map_over_more}
use Rattle.rv_check.specs.Reduced.{quotient}
use Rattle.rv_check.proofs.dense.divide_all.Goals as goal

pub loop-value-preserved : goal.loop-value-preserved
loop-value-preserved c =
    let is : c.quotient.result ≡ quotient c.value-item.result = c.quotient.ensures ∙ ap quotient (sym c.value-item.is) in
    ap (set c.loop-value.values c.loop-value.value-index) is
    ∙ map_over_more quotient c.args.values.now c.loop-value.values c.loop-value.value-index c.value-item.result c.loop-value-test.true c.loop-value.invariant c.value-item.is
