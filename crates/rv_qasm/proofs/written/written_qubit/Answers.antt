use Rattle.std.proofs.Common.{ap, decimal, take, ◌∙◌, ◌++◌, ℕ, List}
use Rattle.rv_qasm.proofs.written.written_qubit.Goals as goal

pub returns-in-Some-clause-text : goal.returns-in-Some-clause-text
returns-in-Some-clause-text c =
    c.closed_qubit.ensures.text (take c.args.at c.args.bytes.now)
    (c.in-Some.ensures.text ∙ ap (λ (before : List ℕ). before ++ decimal c.in-Some.line) (c.is_opened.ensures.text c.if-not-is_opened.false))
