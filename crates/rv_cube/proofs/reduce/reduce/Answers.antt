use Rattle.std.proofs.Common.{◌∙◌, ap}
use Rattle.rv_cube.specs.Esop.{terms_of}
use Rattle.rv_cube.specs.Reduction.{reduced}
use Rattle.rv_cube.specs.inside.Slotted.{Slotted}
use Rattle.rv_cube.proofs.inside.Meaning.{are_reduced}
use Rattle.rv_cube.proofs.reduce.reduce.Goals as goal

pub returns-clause-means : goal.returns-clause-means
returns-clause-means c =
    are_reduced c.args.inputs c.args.cubes.now c.into_cubes.result.items
    (c.into_cubes.ensures ∙ c.in_ok-reduction.ensures.list
    ∙ ap (λ (v : Slotted). reduced v.inputs (terms_of v.cubes)) c.in_ok-new.ensures
    ∙ ap (λ k. reduced k (terms_of c.in_ok-slots.slots.cubes)) c.in_ok-slots.ensures.inputs
    ∙ c.in_ok-slots.ensures.kept)
