use Rattle.std.proofs.Common.{◌∙◌, set, ap}
use Rattle.std.proofs.lemmas.List.Edits.{map_over_more}
use Rattle.rv_net.specs.Cyclotomic.{nought}
use Rattle.rv_check.proofs.dense.erase.Goals as goal

pub loop-value-preserved : goal.loop-value-preserved
loop-value-preserved c =
    ap (set c.loop-value.values c.loop-value.value-index) c.zero.ensures
    ∙ map_over_more (λ u. nought) c.args.values.now c.loop-value.values c.loop-value.value-index c.value-item.result c.loop-value-test.true c.loop-value.invariant c.value-item.is
