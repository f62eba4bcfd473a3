use Rattle.std.proofs.Common.{ap, arith, length}
use Rattle.rv_gate.specs.Circuit.{Cascade, IsCascade}
use Rattle.rv_mct.specs.Extends.{IsPlain}
use Rattle.std.specs.Prelude.{All}
use Rattle.rv_net.proofs.inside.Network.{ArePlain}
use Rattle.rv_expand.specs.Toffoli.{toffoli_ops}
use Rattle.rv_expand.proofs.Classical.{carries-toffolis, denotes-toffolis, toffolis-classical, toffolis-fit}
use Rattle.rv_expand.proofs.toffolis.Toffolis.of_circuit.Goals as goal

are_plain : (c : Cascade) → IsCascade c → All IsPlain c.gates → ArePlain (length c.names) c.gates
are_plain c kept plain = (kept.valid, kept.fitting, plain)

pub invariant_of-result : goal.invariant_of-result
invariant_of-result c =
    let kept = c.recall_invariant.ensures in
    let circuit = c.args.circuit in
    record {
      some = kept.some;
      few = kept.names.few;
      bounded = omega (arith, c.if-count-gt-MOST_OPS.false, c.toffoli_count-count.ensures, ap (λ gates. length (toffoli_ops gates)) c.gates.ensures);
      fitting = toffolis-fit (length circuit.names) circuit.gates (are_plain circuit kept c.requires);
    }

pub returns-then-count-gt-MOST_OPS-clause-classical : goal.returns-then-count-gt-MOST_OPS-clause-classical
returns-then-count-gt-MOST_OPS-clause-classical c =
    let circuit = c.args.circuit in
    toffolis-classical (length circuit.names) circuit.gates (are_plain circuit c.recall_invariant.ensures c.requires)

pub returns-then-count-gt-MOST_OPS-clause-denotes : goal.returns-then-count-gt-MOST_OPS-clause-denotes
returns-then-count-gt-MOST_OPS-clause-denotes c =
    let circuit = c.args.circuit in
    let kept = c.recall_invariant.ensures in
    denotes-toffolis (length circuit.names) circuit.gates (are_plain circuit kept c.requires) kept.names.few

pub returns-then-count-gt-MOST_OPS-clause-carries : goal.returns-then-count-gt-MOST_OPS-clause-carries
returns-then-count-gt-MOST_OPS-clause-carries c =
    let circuit = c.args.circuit in
    let kept = c.recall_invariant.ensures in
    carries-toffolis (length circuit.names) circuit.gates (are_plain circuit kept c.requires) kept.names.few

pub returns-clause-classical : goal.returns-clause-classical
returns-clause-classical c =
    let circuit = c.args.circuit in
    toffolis-classical (length circuit.names) circuit.gates (are_plain circuit c.recall_invariant.ensures c.requires)

pub returns-clause-denotes : goal.returns-clause-denotes
returns-clause-denotes c =
    let circuit = c.args.circuit in
    let kept = c.recall_invariant.ensures in
    denotes-toffolis (length circuit.names) circuit.gates (are_plain circuit kept c.requires) kept.names.few

pub returns-clause-carries : goal.returns-clause-carries
returns-clause-carries c =
    let circuit = c.args.circuit in
    let kept = c.recall_invariant.ensures in
    carries-toffolis (length circuit.names) circuit.gates (are_plain circuit kept c.requires) kept.names.few
