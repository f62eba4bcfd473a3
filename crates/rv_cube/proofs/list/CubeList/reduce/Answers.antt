use Rattle.std.proofs.Common.{List, ap, sym, subst, arith}
use Rattle.rv_pla.specs.declared.cube.Cube.{Cube}
use Rattle.rv_cube.specs.Dashes.{IsDashed}
use Rattle.rv_cube.specs.Esop.{Esop}
use Rattle.rv_cube.specs.inside.Meaning.{AreReduced}
use Rattle.rv_cube.proofs.list.CubeList.reduce.Goals as goal

pub invariant_of-self : goal.invariant_of-self
invariant_of-self c =
    let i = c.self.invariant in
    let P : List Cube → Type 0 = λ old. AreReduced c.self.inside.inputs old c.in_ok-self-inside.field-0.items in
    let r = subst P c.deref.ensures.value c.in_ok-self-inside.ensures.means in
    let less = r.no_more in
    let short = i.bounded in
    record {
      some_inputs = i.some_inputs;
      few_inputs = i.few_inputs;
      some_outputs = i.some_outputs;
      few_outputs = i.few_outputs;
      bounded = omega arith;
      valid = r.valid c.self.inside.outputs i.valid;
    }

pub returns-clause-dashes : goal.returns-clause-dashes
returns-clause-dashes c input all =
    let P : List Cube → Type 0 = IsDashed input in
    c.in_ok-self-inside.ensures.means.dashes input (subst P (sym c.deref.ensures.value) (subst P (sym (ap (λ (t : Esop). t.cubes) c.self.view_is)) all))
