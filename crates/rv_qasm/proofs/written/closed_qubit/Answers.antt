use Rattle.rv_qasm.proofs.inside.WrittenLines.{qubit_of}
use Rattle.rv_qasm.proofs.written.closed_qubit.Goals as goal

pub returns-then-is_at-clause-text : goal.returns-then-is_at-clause-text
returns-then-is_at-clause-text c = λ before is. qubit_of before _ _ c.args.line is (c.is_at.ensures.text c.if-is_at.true)
