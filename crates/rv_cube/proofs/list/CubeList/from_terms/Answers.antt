use Rattle.std.proofs.Common.{List, sym, subst, arith}
use Rattle.std.specs.Prelude.{All}
use Rattle.rv_pla.specs.declared.cube.Cube.{Cube}
use Rattle.rv_cube.specs.Esop.{IsTerm}
use Rattle.rv_cube.proofs.Terms.{terms_valid}
use Rattle.rv_cube.proofs.list.CubeList.from_terms.Goals as goal

pub invariant_of-result : goal.invariant_of-result
invariant_of-result c =
    let P : List Cube → Type 0 = All (IsTerm c.args.inputs c.args.outputs) in
    let r = c.requires in
    let bound = c.terms_of.ensures.no_more in
    let few = r.few in
    record {
      some_inputs = r.some_inputs;
      few_inputs = r.few_inputs;
      some_outputs = r.some_outputs;
      few_outputs = r.few_outputs;
      bounded = omega arith;
      valid = subst P (sym c.terms_of.ensures.value) (terms_valid c.args.inputs c.args.outputs c.args.terms.items r.valid);
    }
