use Rattle.std.proofs.Common.{length, ap, arith}
use Rattle.rv_gate.specs.Circuit.{Cascade}
use Rattle.rv_esop.proofs.Rewriting.{fits_at, same_none, same_next, same_all}
use Rattle.rv_esop.proofs.parts.push_each.Goals as goal

pub loop-gate-init : goal.loop-gate-init
loop-gate-init c = same_none c.args.circuit.now

pub push_parts-requires : goal.push_parts-requires
push_parts-requires c =
    fits_at c.args.gates.now c.loop-gate.gate-index (length c.args.circuit.now.names) _ c.gate-item.result (omega arith)
    c.gate-item.is
    (ap (λ (t : Cascade). length t.names) c.loop-gate.invariant.is) c.requires

pub loop-gate-preserved : goal.loop-gate-preserved
loop-gate-preserved c =
    same_next c.args.gates.now c.loop-gate.gate-index c.gate-item.result c.args.circuit.now c.loop-gate.circuit
    c.push_parts.new.circuit (omega arith) c.gate-item.is c.loop-gate.invariant c.in_ok-push_parts.ensures

pub returns : goal.returns
returns c =
    same_all c.args.gates.now c.loop-gate.gate-index c.args.circuit.now c.loop-gate.circuit (omega arith)
    c.loop-gate.invariant
