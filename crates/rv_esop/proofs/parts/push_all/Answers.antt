use Rattle.std.proofs.Common.{length, ap, sym, append-nil, arith}
use Rattle.rv_gate.specs.Circuit.{Cascade}
use Rattle.rv_esop.proofs.Marks.{with_gates}
use Rattle.rv_esop.proofs.Rewriting.{fits_at, pushed_next, pushed_all}
use Rattle.rv_esop.proofs.parts.push_all.Goals as goal

pub loop-gate-init : goal.loop-gate-init
loop-gate-init c = ap (with_gates c.args.circuit.now) (sym (append-nil c.args.circuit.now.gates))

pub push-requires : goal.push-requires
push-requires c =
    fits_at c.args.gates.now c.loop-gate.gate-index (length c.args.circuit.now.names) _ c.gate-item.result (omega arith)
    c.gate-item.is
    (ap (λ (t : Cascade). length t.names) c.loop-gate.invariant) c.requires

pub loop-gate-preserved : goal.loop-gate-preserved
loop-gate-preserved c =
    pushed_next c.args.gates.now c.loop-gate.gate-index c.gate-item.result c.args.circuit.now c.loop-gate.circuit
    c.push.new.self (omega arith) c.gate-item.is c.loop-gate.invariant c.in_ok-push.ensures.ok

pub returns : goal.returns
returns c =
    pushed_all c.args.gates.now c.loop-gate.gate-index c.args.circuit.now c.loop-gate.circuit (omega arith)
    c.loop-gate.invariant
