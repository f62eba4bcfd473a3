use Rattle.std.proofs.Common.{◌++◌, [], codes}
use Rattle.rv_io.proofs.Adding.{adds_as, adds_then}
use Rattle.rv_qasm.specs.Text.{qubit}
use Rattle.rv_qasm.proofs.QubitTexts.{in_two}
use Rattle.rv_qasm.proofs.write.put_two.Goals as goal

pub returns : goal.returns
returns g c = λ gate are.
    let first = adds_as (c.text.ensures c.args.lines (gate ++ codes " ") (codes ",") are c.requires.first) c.put_short.ensures in
    let second = adds_as (c.text-2.ensures c.args.lines [] (codes ";\n") c.requires.last c.requires.second) c.put_short-2.ensures in
    adds_as (in_two gate (codes " ") (qubit c.args.a) (codes ",") (qubit c.args.b) (codes ";\n")) (adds_then first second)
