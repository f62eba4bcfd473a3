use Rattle.std.proofs.Common.{◌∙◌, ◌++◌, List, ap, arith, get_or, length, length-append, option_to_list, sym}
use Rattle.rv_gate.specs.Circuit.{Cascade}
use Rattle.rv_gate.specs.declared.gate.Shape.{Shape}
use Rattle.rv_net.specs.declared.op.Op.TheVariants.{X}
use Rattle.rv_qasm.specs.Back.{classical_gate}
use Rattle.rv_qasm.proofs.BackLaws.{at_most_one, gates_more}
use Rattle.rv_qasm.proofs.back.add_gates.Goals as goal

pub add_gate-requires-clause-fits : goal.add_gate-requires-clause-fits
add_gate-requires-clause-fits c = rw c.loop-op.invariant.so_far (c.requires.fits c.loop-op.op-index _ c.loop-op-test.true)

pub loop-op-preserved : goal.loop-op-preserved
loop-op-preserved c =
    let op = get_or c.args.ops.now c.loop-op.op-index (X 0) in
    let gates = ap (λ (x : Cascade). x.gates) c.in_ok-add_gate.ensures in
    record {
      so_far = c.in_ok-add_gate.ensures
          ∙ ap (λ (x : Cascade). record x { gates = x.gates ++ option_to_list (classical_gate op) }) c.loop-op.invariant.so_far
          ∙ ap (λ (gates : List Shape). record c.args.circuit.now { gates = gates }) (sym (gates_more c.args.ops.now c.loop-op.op-index (X 0) c.loop-op-test.true));
      few = omega (arith, ap length gates, length-append c.loop-op.circuit.gates (option_to_list (classical_gate op)), at_most_one (classical_gate op), c.loop-op.invariant.few);
    }
