use Rattle.std.proofs.Common.{◌≡◌, ◌<◌, ◌+◌, ◌-◌, ◌++◌, ◌∷◌, [], length, ℕ, sym, subst, ◌∙◌, ap, arith}
use Rattle.rv_gate.specs.Gate.{FitsIn}
use Rattle.rv_gate.specs.Circuit.{Cascade}
use Rattle.rv_gate.specs.declared.gate.Shape.{Shape}
use Rattle.rv_gate.specs.declared.gate.Shape.TheVariants.{Flip}
use Rattle.rv_esop.specs.inside.Flips.{flips_from}
use Rattle.rv_esop.proofs.Marks.{with_gates}
use Rattle.rv_esop.proofs.inside.Flips.{cube_gate, cube_fits, flips_some, flips_none, flips_end}
use Rattle.rv_esop.proofs.circuit.push_flips.Goals as goal
use Rattle.rv_esop.proofs.circuit.push_flips.Goals.{then-has+in-Ok, else-has}

pub flip_of-requires : goal.flip_of-requires
flip_of-requires c =
    cube_gate c.args.inputs c.args.outputs c.loop-output.output c.args.cube c.requires.few_inputs (omega arith)
    c.requires.valid

pub push-requires : goal.push-requires
push-requires c =
    let h : c.loop-output.output < c.args.outputs = omega arith in
    let P : Shape → Type 0 = λ g. FitsIn g (c.args.inputs + c.args.outputs) in
    let fits : FitsIn c.flip_of.result (c.args.inputs + c.args.outputs) =
    subst P (sym c.flip_of.ensures.value)
    (cube_fits c.args.inputs c.args.outputs c.loop-output.output c.args.cube h c.requires.valid) in
    let Q : ℕ → Type 0 = λ n. FitsIn c.flip_of.result n in
    subst Q (sym (ap (λ (t : Cascade). length t.names) c.loop-output.invariant.rest_same ∙ c.requires.lines)) fits

pub loop-output-preserved : goal.loop-output-preserved
loop-output-preserved c =
    let h : c.loop-output.output < c.args.outputs = omega arith in
    let i = c.loop-output.invariant in
    elim c.if-has.branch [
      | then-has+in-Ok w ↦
          let gates = c.loop-output.circuit.gates in
          let flip = Flip c.args.cube.care c.args.cube.want (c.args.inputs + c.loop-output.output) in
          let rest =
          flips_from c.args.inputs c.args.cube (c.loop-output.output + 1)
          (c.args.outputs - (c.loop-output.output + 1)) in
          let e : c.if-has.circuit ≡ with_gates c.loop-output.circuit (gates ++ flip ∷ []) =
          w.circuit-is ∙ w.in-Ok.ensures.ok
          ∙ ap (λ g. with_gates c.loop-output.circuit (gates ++ g ∷ [])) w.flip_of.ensures.value in
          record {
            rest_same =
                e ∙ ap (λ (t : Cascade). with_gates t (gates ++ flip ∷ [])) i.rest_same
                ∙ ap (λ (t : Cascade). with_gates c.args.circuit.now t.gates) (sym e);
            so_far =
                ap (λ (t : Cascade). t.gates ++ rest) e
                ∙ flips_some c.args.inputs c.args.cube c.loop-output.output c.args.outputs gates h
                (sym c.has.ensures ∙ w.if-has.true)
                ∙ i.so_far;
          }
      | else-has w ↦
          rw w.circuit-is
          (record {
            rest_same = i.rest_same;
            so_far =
                flips_none c.args.inputs c.args.cube c.loop-output.output c.args.outputs c.loop-output.circuit.gates h
                (sym c.has.ensures ∙ w.if-has.false) ∙ i.so_far;
          })
    ]

pub returns : goal.returns
returns c =
    let i = c.loop-output.invariant in
    i.rest_same
    ∙ ap (with_gates c.args.circuit.now)
    (flips_end c.args.inputs c.args.cube c.loop-output.output c.args.outputs c.loop-output.circuit.gates (omega arith)
    ∙ i.so_far)
