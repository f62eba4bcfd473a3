use Rattle.std.proofs.Common.{◌∙◌, sym, ap}
use Rattle.rv_qasm.specs.inside.Reached.{nothing_reached, reading, gave}
use Rattle.rv_qasm.proofs.inside.Steps.{steps-none}
use Rattle.rv_qasm.proofs.reader.QasmReaderTextReader.new.Goals as goal

pub returns-clause-stands : goal.returns-clause-stands
returns-clause-stands c = record { progress = ap reading c.new.ensures ∙ sym (ap gave (steps-none nothing_reached)) }
