use Rattle.std.proofs.Common.{◌≡◌, ◌∙◌, List, ap, arith, length, subst, sym}
use Rattle.rv_gate.specs.Gate.{run}
use Rattle.rv_gate.specs.declared.gate.Shape.{Shape}
use Rattle.rv_net.specs.Denotes.{Denotes}
use Rattle.rv_qasm.specs.Back.{classical_length, classical_gates}
use Rattle.rv_qasm.proofs.BackLaws.{all_classical, denotes_gates, one_gate_each}
use Rattle.rv_qasm.proofs.back.to_circuit.Goals as goal

pub returns-in-Ok-clause-denotes : goal.returns-in-Ok-clause-denotes
returns-in-Ok-clause-denotes c =
    let gates : c.in-Ok.circuit.gates ≡ classical_gates c.args.net.now.ops = ap (λ x. x.gates) c.in-Ok.ensures ∙ ap classical_gates c.ops-ops.ensures in
    let all = all_classical c.args.net.now.ops (omega (arith, c.classical_length-place.ensures, ap classical_length c.ops-ops.ensures, ap length c.ops-ops.ensures)) in
    subst (λ (gates : List Shape). Denotes c.args.net.now.lines c.args.net.now.ops (run gates)) (sym gates)
    (denotes_gates c.args.net.now.lines c.args.net.now.ops c.lines-lines.ensures.valid.fitting all)

pub returns-in-Ok-clause-count : goal.returns-in-Ok-clause-count
returns-in-Ok-clause-count c =
    let gates : c.in-Ok.circuit.gates ≡ classical_gates c.args.net.now.ops = ap (λ x. x.gates) c.in-Ok.ensures ∙ ap classical_gates c.ops-ops.ensures in
    let all = all_classical c.args.net.now.ops (omega (arith, c.classical_length-place.ensures, ap classical_length c.ops-ops.ensures, ap length c.ops-ops.ensures)) in
    ap length gates ∙ one_gate_each c.args.net.now.ops all
