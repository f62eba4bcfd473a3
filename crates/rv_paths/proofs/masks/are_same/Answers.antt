use Rattle.std.proofs.Common.{◌∙◌, sym}
use Rattle.rv_paths.proofs.inside.Parities.{same-more}
use Rattle.rv_paths.proofs.masks.are_same.Goals as goal

pub loop-variable-preserved : goal.loop-variable-preserved
loop-variable-preserved c v =
    same-more c.args.first.now c.args.second.now c.loop-variable.variable _ _ (sym c.differ.ensures ∙ c.if-differ.false) c.holds.ensures c.holds-in-loop-variable.ensures v
    (c.loop-variable.invariant v)
