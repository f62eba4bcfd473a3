use Rattle.rv_qasm.proofs.inside.GateLaws.{agreed}
use Rattle.rv_qasm.proofs.apply.qubits_at.Goals as goal

pub qubit_at-requires-clause-j : goal.qubit_at-requires-clause-j
qubit_at-requires-clause-j c =
    agreed c.args.operands.now c.loop-range.range-index c.args.j _ c.loop-range-test.true c.requires.repeats c.requires.agree
