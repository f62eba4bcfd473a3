use Rattle.std.proofs.Common.{◌≡◌, ℕ, ◌+◌, ◌-◌, ◌∙◌, ap, arith, map}
use Rattle.std.specs.List.{range_with_len}
use Rattle.rv_qasm.specs.Rules.{ops_read, qubits_at, repeats}
use Rattle.rv_qasm.specs.inside.Views.{named_qubits}
use Rattle.rv_qasm.proofs.inside.GateLaws.{ops_first}
use Rattle.rv_qasm.proofs.state.State.each_read.Goals as goal

pub loop-j-preserved : goal.loop-j-preserved
loop-j-preserved c =
    let all = map named_qubits c.args.operands.now in
    let left : repeats all - c.loop-j.j ≡ repeats all - (c.loop-j.j + 1) + 1 = omega (arith, c.repeats-j-end.ensures) in
    record {
      so_far = c.loop-j.invariant.so_far
          ∙ ap (λ (n : ℕ). ops_read c.args.name.now c.loop-j.self (map (qubits_at all) (range_with_len c.loop-j.j n))) left
          ∙ ops_first c.args.name.now c.loop-j.self c.op_at.new.self (qubits_at all) c.loop-j.j (repeats all - (c.loop-j.j + 1)) c.in_ok-op_at.ensures.gives;
      same = c.in_ok-op_at.ensures.same ∙ c.loop-j.invariant.same;
    }
