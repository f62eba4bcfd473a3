use Rattle.std.proofs.lemmas.List.{take-replicate}
use Rattle.rv_gate.specs.declared.circuit.Mark.TheVariants.{Input}
use Rattle.rv_compare.proofs.marks.constants_asked.Goals as goal

pub returns-then-all-clause-value : goal.returns-then-all-clause-value
returns-then-all-clause-value c = rw c.if-all.true (take-replicate _ 64 Input c.requires)
