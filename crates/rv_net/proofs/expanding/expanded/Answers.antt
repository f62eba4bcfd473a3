use Rattle.std.proofs.Common.{◌≡◌, ◌∙◌, ap, arith, length}
use Rattle.rv_net.specs.Network.{network_of}
use Rattle.rv_net.proofs.Counting.{length-network, network_fits}
use Rattle.rv_net.proofs.inside.Network.{ArePlain}
use Rattle.rv_net.proofs.expanding.expanded.Goals as goal

pub of_ops-requires : goal.of_ops-requires
of_ops-requires c =
    let kept = c.line_count-lines.ensures.valid in
    let plain : ArePlain (length c.args.circuit.now.names) c.args.circuit.now.gates = (kept.valid, kept.fitting, c.requires) in
    let ops : c.in-Ok.ops.items ≡ network_of c.args.circuit.now.gates = c.in-Ok.ensures ∙ ap network_of c.gates.ensures in
    let lines : c.line_count-lines.result ≡ length c.args.circuit.now.names = c.line_count-lines.ensures.value in
    record {
      some = c.line_count-lines.ensures.some;
      few = c.line_count-lines.ensures.few;
      bounded = omega (arith, ap length ops, length-network (length c.args.circuit.now.names) c.args.circuit.now.gates plain, c.if-count-gt-MOST_OPS.false, c.count_operations-count.ensures.value);
      fitting = rw (ops, lines) (network_fits (length c.args.circuit.now.names) c.args.circuit.now.gates plain);
    }
