use Rattle.std.proofs.Common.{ℕ, List, ◌≤◌, ◌∙◌, length, arith, subst}
use Rattle.rv_qasm.proofs.QubitTexts.{one_digit, two_digits}
use Rattle.rv_qasm.proofs.texts.qubit_text.Goals as goal

abbrev IsShort : List ℕ → Type 0
IsShort text = length text ≤ 5

pub returns-then-line-lt10-clause-text : goal.returns-then-line-lt10-clause-text
returns-then-line-lt10-clause-text c = c.joined.ensures ∙ one_digit c.args.line c.if-line-lt10.true

pub returns-then-line-lt10-clause-short : goal.returns-then-line-lt10-clause-short
returns-then-line-lt10-clause-short c = subst IsShort (one_digit c.args.line c.if-line-lt10.true) (omega arith)

pub returns-else-line-lt10-clause-text : goal.returns-else-line-lt10-clause-text
returns-else-line-lt10-clause-text c =
    c.joined-else-line-lt10.ensures ∙ two_digits c.args.line c.if-line-lt10.false (omega (arith, c.requires))

pub returns-else-line-lt10-clause-short : goal.returns-else-line-lt10-clause-short
returns-else-line-lt10-clause-short c =
    subst IsShort (two_digits c.args.line c.if-line-lt10.false (omega (arith, c.requires))) (omega arith)
