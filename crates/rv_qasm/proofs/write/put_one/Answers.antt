use Rattle.std.proofs.Common.{◌∙◌, ◌++◌, codes}
use Rattle.rv_io.proofs.Adding.{adds_as}
use Rattle.rv_qasm.specs.Text.{qubit}
use Rattle.rv_qasm.proofs.QubitTexts.{in_one}
use Rattle.rv_qasm.proofs.write.put_one.Goals as goal

pub returns : goal.returns
returns g c = λ gate are.
    let text = c.text.ensures c.args.lines (gate ++ codes " ") (codes ";\n") are c.requires.line in
    adds_as (text ∙ in_one gate (codes " ") (qubit c.args.line) (codes ";\n")) c.put_short.ensures
