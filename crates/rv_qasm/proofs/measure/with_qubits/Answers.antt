use Rattle.std.proofs.Common.{◌∙◌, ◌*◌, ◌+◌, ◌^◌, ◌%◌, ℕ, ap, arith, bit_or}
use Rattle.rv_qasm.proofs.inside.GateLaws.{one_more}
use Rattle.rv_qasm.proofs.measure.with_qubits.Goals as goal

pub loop-i-preserved : goal.loop-i-preserved
loop-i-preserved c =
    ap (λ (set : ℕ). bit_or set (1 * 2 ^ (c.args.first + c.loop-i.i) % 18446744073709551616)) c.loop-i.invariant
    ∙ one_more c.args.set c.args.first c.loop-i.i (omega arith)
