use Rattle.std.proofs.Common.{◌/◌, ◌^◌, List, take, subst, sym, ap, ◌∙◌, arith}
use Rattle.std.specs.Prelude.{All}
use Rattle.std.proofs.lemmas.List.{take_more, take_all}
use Rattle.std.proofs.lemmas.List.Elements.{All-push}
use Rattle.rv_pla.specs.Cube.{IsCube}
use Rattle.rv_pla.specs.declared.cube.Cube.{Cube}
use Rattle.rv_cube.specs.Reduction.{no_cube, at}
use Rattle.rv_exorlink.proofs.Finds.{tested_cube}
use Rattle.rv_exorlink.proofs.found.are_cubes.Goals as goal

pub loop-cube-preserved : goal.loop-cube-preserved
loop-cube-preserved c =
    let cubes = c.args.cubes.now in
    let k = c.loop-cube.cube-index in
    let P : Cube → Type 0 = IsCube c.args.inputs c.args.outputs in
    let Q : List Cube → Type 0 = λ l. All P l in
    subst Q (sym (take_more cubes k no_cube (omega arith)))
    (All-push P (take k cubes) (at cubes k) c.loop-cube.invariant (tested_cube c.args.inputs c.args.outputs (at cubes k)
    (ap (λ a. a / 2 ^ c.args.inputs) (sym c.from.ensures) ∙ c.if-from-inputs-ne0.false)
    c.if-cube.false
    (ap (λ a. a / 2 ^ c.args.outputs) (sym c.from-else-cube.ensures) ∙ c.if-from-outputs-ne0.false)))

pub returns : goal.returns
returns c =
    let cubes = c.args.cubes.now in
    let Q : List Cube → Type 0 = λ l. All (IsCube c.args.inputs c.args.outputs) l in
    λ on. subst Q (take_all c.loop-cube.cube-index cubes (omega arith)) c.loop-cube.invariant
