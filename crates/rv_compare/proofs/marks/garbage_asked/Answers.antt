use Rattle.std.proofs.Common.{false}
use Rattle.std.proofs.lemmas.List.{take-replicate}
use Rattle.rv_compare.proofs.marks.garbage_asked.Goals as goal

pub returns-then-all-clause-value : goal.returns-then-all-clause-value
returns-then-all-clause-value c = rw c.if-all.true (take-replicate _ 64 false c.requires)
