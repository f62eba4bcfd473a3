use Rattle.std.proofs.lemmas.List.{take-replicate}
use Rattle.rv_gate.specs.declared.circuit.Mark.TheVariants.{Input}
use Rattle.rv_compare.proofs.marks.inputs_of.Goals as goal

pub returns : goal.returns
returns c = take-replicate _ 64 Input c.requires
