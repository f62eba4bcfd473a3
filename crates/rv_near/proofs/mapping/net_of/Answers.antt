use Rattle.std.proofs.Common.{◌≡◌, ◌∙◌, ap, arith, length}
use Rattle.rv_net.proofs.inside.Network.{ArePlain}
use Rattle.rv_near.specs.Near.{near_ops}
use Rattle.rv_near.proofs.inside.Operations.{near-fits}
use Rattle.rv_near.proofs.mapping.net_of.Goals as goal

pub of_ops-requires : goal.of_ops-requires
of_ops-requires c =
    let kept = c.line_count-lines.ensures.valid in
    let circuit = c.args.circuit.now in
    let plain : ArePlain (length circuit.names) circuit.gates = (kept.valid, kept.fitting, c.requires) in
    let ops : c.in-Ok.ops.items ≡ near_ops circuit.gates = c.in-Ok.ensures ∙ ap near_ops c.gates-2.ensures in
    let lines : c.line_count-lines.result ≡ length circuit.names = c.line_count-lines.ensures.value in
    record {
      some = c.line_count-lines.ensures.some;
      few = c.line_count-lines.ensures.few;
      bounded = omega (arith, ap length ops, c.if-count-gt-MOST_OPS.false, c.count_operations-count.ensures, ap (λ gates. length (near_ops gates)) c.gates.ensures);
      fitting = rw (ops, lines) (near-fits (length circuit.names) circuit.gates plain);
    }
