use Rattle.std.proofs.Common.{◌≡◌, ℕ, List, ap, sym, ◌∙◌, subst, arith}
use Rattle.std.specs.Prelude.{All}
use Rattle.rv_pla.specs.declared.cube.Cube.{Cube}
use Rattle.rv_cube.specs.Esop.{Esop, IsTerm}
use Rattle.rv_cube.specs.inside.Meaning.{AreReducedFor}
use Rattle.rv_cube.proofs.list.CubeList.reduce_for.Goals as goal

pub invariant_of-self : goal.invariant_of-self
invariant_of-self c =
    let s = c.self.inside in
    let i = c.self.invariant in
    let en : s.inputs ≡ c.args.pla.now.inputs = ap (λ (t : Esop). t.inputs) c.self.view_is ∙ c.requires.inputs in
    let R : List Cube → Type 0 = λ old. AreReducedFor c.args.pla.now old c.in_ok-self-inside.field-0.items in
    let r = subst R c.deref.ensures.value c.in_ok-self-inside.ensures.means in
    let less = r.no_more in
    let short = i.bounded in
    let P : ℕ → Type 0 = λ n. All (IsTerm n s.outputs) s.cubes.items in
    let Q : ℕ → Type 0 = λ n. All (IsTerm n s.outputs) c.in_ok-self-inside.field-0.items in
    record {
      some_inputs = i.some_inputs;
      few_inputs = i.few_inputs;
      some_outputs = i.some_outputs;
      few_outputs = i.few_outputs;
      bounded = omega arith;
      valid = subst Q (sym en) (r.valid s.outputs (subst P en i.valid));
    }
