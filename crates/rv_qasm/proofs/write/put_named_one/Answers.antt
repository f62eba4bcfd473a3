use Rattle.std.proofs.Common.{[], codes}
use Rattle.rv_io.proofs.Adding.{adds_as, adds_then}
use Rattle.rv_qasm.specs.Text.{qubit}
use Rattle.rv_qasm.proofs.QubitTexts.{in_one}
use Rattle.rv_qasm.proofs.write.put_named_one.Goals as goal

pub returns : goal.returns
returns g c = λ gate named.
    let last = adds_as (c.text.ensures c.args.lines [] (codes ";\n") c.requires.texts.last c.requires.line) c.put_short.ensures in
    adds_as (in_one gate (codes " ") (qubit c.args.line) (codes ";\n")) (adds_then (adds_as named c.put.ensures) last)
