use Rattle.std.proofs.Common.{◌∷◌, [], ap, arith, length, length-append}
use Rattle.rv_paths.proofs.inside.Parities.{combined-more}
use Rattle.rv_paths.proofs.masks.combined.Goals as goal

pub loop-variable-preserved : goal.loop-variable-preserved
loop-variable-preserved c =
    let items = c.in_ok-push.ensures.items in
    let inv = c.loop-variable.invariant in record {
      count = omega (arith, ap length items, length-append c.loop-variable.mask.items (c.differ.result ∷ []), inv.count);
      sum = λ v.
          combined-more c.loop-variable.mask.items c.args.first.now c.args.second.now _ c.loop-variable.variable _ _ _ items c.differ.ensures c.holds.ensures c.holds-in-loop-variable.ensures inv.count v
          (inv.sum v);
    }
