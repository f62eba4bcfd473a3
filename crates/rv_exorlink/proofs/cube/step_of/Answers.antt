use Rattle.std.proofs.Common.{subst, sym, ◌∙◌}
use Rattle.rv_pla.specs.declared.cube.Cube.{Cube}
use Rattle.rv_cube.specs.Distance.{with_third}
use Rattle.rv_exorlink.specs.Sums.{IsStep}
use Rattle.rv_exorlink.proofs.Cubes.{input_step, outputs_step}
use Rattle.rv_exorlink.proofs.cube.step_of.Goals as goal

pub returns-then-has : goal.returns-then-has
returns-then-has c =
    let x = c.args.x in
    let y = c.args.y in
    let P : Cube → Type 0 = λ sum. IsStep c.args.inputs x y sum c.with_symbol_of.result in
    let Q : Cube → Type 0 = λ next. IsStep c.args.inputs x y (with_third x y c.args.place) next in
    subst P (sym c.with_third.ensures)
    (subst Q (sym c.with_symbol_of.ensures)
    (input_step c.args.inputs x y c.args.place c.if-place-inputs.true
    (sym (c.differing_set.ensures c.args.place) ∙ sym c.has.ensures ∙ c.if-has.true)))

pub returns : goal.returns
returns c = outputs_step c.args.inputs c.args.x c.args.y
