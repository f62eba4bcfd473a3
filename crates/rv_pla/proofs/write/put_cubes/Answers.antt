use Rattle.std.proofs.Common.{◌≤◌, ◌∷◌, [], length, ap, ◌∙◌, arith}
use Rattle.std.specs.List.{flat_map}
use Rattle.std.proofs.lemmas.List.{take_all}
use Rattle.std.proofs.lemmas.Option.{slice_get-get_or}
use Rattle.rv_io.proofs.Adding.{adds_as}
use Rattle.rv_text.specs.Spelled.{spelled}
use Rattle.rv_pla.specs.declared.cube.Cube.{Cube}
use Rattle.rv_pla.specs.Text.{cube_words}
use Rattle.rv_io.proofs.Pieces.{adds_more}
use Rattle.rv_text.proofs.Pieces.{spelled-map}
use Rattle.rv_pla.proofs.write.put_cubes.Goals as goal

pub loop-cube-preserved : goal.loop-cube-preserved
loop-cube-preserved g c =
    let none : Cube = record { care = 0; want = 0; outs = 0 } in
    adds_more (λ cube. spelled (cube_words c.args.inputs c.args.outputs cube ∷ [])) c.args.cubes.now c.loop-cube.cube-index _
    (slice_get-get_or c.args.cubes.now c.loop-cube.cube-index none c.loop-cube-test.true) c.loop-cube.invariant c.put_cube.ensures

pub returns : goal.returns
returns g c =
    let cubes = c.args.cubes.now in
    let all : length cubes ≤ c.loop-cube.cube-index = omega arith in
    adds_as (ap (flat_map (λ (cube : Cube). spelled (cube_words c.args.inputs c.args.outputs cube ∷ []))) (take_all c.loop-cube.cube-index cubes all) ∙ spelled-map (cube_words c.args.inputs c.args.outputs) cubes)
    c.loop-cube.invariant
