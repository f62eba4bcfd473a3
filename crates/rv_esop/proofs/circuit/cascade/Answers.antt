use Rattle.std.proofs.Common.{◌<◌, ◌+◌, ◌++◌, length, drop, ap, sym, ◌∙◌, arith, append_assoc}
use Rattle.rv_gate.specs.Circuit.{Cascade}
use Rattle.rv_gate.specs.Gate.{run}
use Rattle.rv_cube.specs.Reduction.{no_cube, at}
use Rattle.rv_esop.specs.Cascade.{flips_of_cubes, esop_lines}
use Rattle.rv_esop.specs.inside.Flips.{flips_from}
use Rattle.rv_esop.proofs.Marks.{with_gates}
use Rattle.rv_esop.proofs.inside.Flips.{flips_of-more, flips_of-all, run_flips_of}
use Rattle.rv_esop.proofs.circuit.cascade.Goals as goal

pub loop-cube-preserved : goal.loop-cube-preserved
loop-cube-preserved c =
    let i = c.loop-cube.invariant in
    let n = c.inputs-inputs.result in
    let o = c.outputs-outputs.result in
    let cubes = c.args.cubes.now.cubes in
    let k = c.loop-cube.cube-index in
    let m = ap length c.cubes-cube-items.ensures.value in
    let h : c.loop-cube.cube-index < length c.args.cubes.now.cubes = omega arith in
    let rest = flips_of_cubes n o (drop (k + 1) cubes) in
    let e = c.in_ok-push_flips.ensures in
    record {
      rest_same =
          e ∙ ap (λ (t : Cascade). with_gates t
          (c.loop-cube.circuit.gates ++ flips_from n (at c.cubes-cube-items.result.now k) 0 o)) i.rest_same
          ∙ ap (λ (t : Cascade). with_gates (esop_lines n o) t.gates) (sym e);
      so_far =
          ap (λ (t : Cascade). t.gates ++ rest) e
          ∙ append_assoc c.loop-cube.circuit.gates _ rest
          ∙ ap (λ cs. c.loop-cube.circuit.gates ++ (flips_from n (at cs k) 0 o ++ rest))
          c.cubes-cube-items.ensures.value
          ∙ ap (λ w. c.loop-cube.circuit.gates ++ w) (sym (flips_of-more n o cubes k no_cube h))
          ∙ i.so_far;
    }

pub returns-clause-circuit : goal.returns-clause-circuit
returns-clause-circuit c =
    let i = c.loop-cube.invariant in
    let e = c.args.cubes.now in
    let o = c.outputs-outputs.result in
    let m = ap length c.cubes-cube-items.ensures.value in
    let gates =
    flips_of-all c.inputs-inputs.result o e.cubes c.loop-cube.cube-index c.loop-cube.circuit.gates (omega arith)
    i.so_far in
    i.rest_same
    ∙ ap (with_gates (esop_lines c.inputs-inputs.result o)) gates
    ∙ ap (λ n. with_gates (esop_lines n o) (flips_of_cubes n o e.cubes)) c.inputs-inputs.ensures.value
    ∙ ap (λ k. with_gates (esop_lines e.inputs k) (flips_of_cubes e.inputs k e.cubes)) c.outputs-outputs.ensures.value

pub returns-clause-adds : goal.returns-clause-adds
returns-clause-adds c x v lx lv =
    let i = c.loop-cube.invariant in
    let e = c.args.cubes.now in
    let n = c.inputs-inputs.result in
    let o = c.outputs-outputs.result in
    let m = ap length c.cubes-cube-items.ensures.value in
    let gates = flips_of-all n o e.cubes c.loop-cube.cube-index c.loop-cube.circuit.gates (omega arith) i.so_far in
    ap (λ w. run w (x ++ v))
    (gates ∙ ap (λ k. flips_of_cubes k o e.cubes) c.inputs-inputs.ensures.value
    ∙ ap (λ k. flips_of_cubes e.inputs k e.cubes) c.outputs-outputs.ensures.value)
    ∙ run_flips_of e.inputs e.outputs e.cubes x v c.cubes-cube-items.ensures.valid lx lv
