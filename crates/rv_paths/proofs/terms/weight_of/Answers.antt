use Rattle.std.proofs.Common.{◌<◌, ℕ, List, length, refl, arith}
use Rattle.rv_paths.proofs.inside.Vanishing.{weight-more}
use Rattle.rv_paths.proofs.terms.weight_of.Goals as goal

pub loop-place-preserved : goal.loop-place-preserved
loop-place-preserved c =
    let places : List ℕ = c.args.some.now in
    let n : ℕ = c.loop-place.place-index in
    let within : n < length places = omega arith in
    weight-more c.args.variable n _ c.args.terms.now places 0 c.loop-place.sum c.weight_at.result _ within refl c.weight_at.ensures c.joined-sum.ensures c.loop-place.invariant
