use Rattle.std.proofs.Common.{◌≡◌, List, ap, subst, ◌∙◌}
use Rattle.rv_pla.specs.declared.cube.Cube.{Cube}
use Rattle.rv_cube.specs.Esop.{Esop, terms_of}
use Rattle.rv_cube.specs.First.{first_of}
use Rattle.rv_cube.specs.ReductionFor.{reduced_for}
use Rattle.rv_exorlink.specs.Found.{MayReplace}
use Rattle.rv_exorlink.proofs.Finds.{replaced, cubes_of_terms, found}
use Rattle.rv_exorlink.proofs.found.found_list.Goals as goal

pub from_terms-requires-clause-valid : goal.from_terms-requires-clause-valid
from_terms-requires-clause-valid c =
    let pla = c.args.pla.now in
    let new = c.shorten.new.cubes.items in
    let m =
    replaced c.args.goal pla c.in_ok-free.free c.inputs.result c.cubes.result.now c.in_ok-cubes.cubes.items new
    c.in_ok-cubes.ensures c.inputs.ensures.value
    c.in_ok-free.ensures c.in_ok-shorten.ensures.same c.in_ok-shorten.ensures.better in
    cubes_of_terms pla.inputs pla.outputs c.inputs-2.result c.outputs.result new c.inputs-2.ensures.value
    c.outputs.ensures.value m.terms

pub returns : goal.returns
returns c =
    let pla = c.args.pla.now in
    let new = c.shorten.new.cubes.items in
    let m =
    replaced c.args.goal pla c.in_ok-free.free c.inputs.result c.cubes.result.now c.in_ok-cubes.cubes.items new
    c.in_ok-cubes.ensures c.inputs.ensures.value
    c.in_ok-free.ensures c.in_ok-shorten.ensures.same c.in_ok-shorten.ensures.better in
    let e : c.cubes.result.now ≡ reduced_for pla (first_of pla).cubes =
    c.cubes.ensures.value ∙ ap (λ (l : Esop). l.cubes) c.requires.list in
    let P : List Cube → Type 0 = λ l. MayReplace c.args.goal pla l new in
    found c.args.goal pla new c.from_terms.result (subst P e m)
    (c.from_terms.ensures
    ∙ ap (λ n. record { inputs = n; outputs = c.outputs.result; cubes = terms_of new }) c.inputs-2.ensures.value
    ∙ ap (λ o. record { inputs = pla.inputs; outputs = o; cubes = terms_of new }) c.outputs.ensures.value)
