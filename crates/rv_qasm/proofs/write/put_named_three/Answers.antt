use Rattle.std.proofs.Common.{[], codes}
use Rattle.rv_io.proofs.Adding.{adds_as, adds_then}
use Rattle.rv_qasm.specs.Text.{qubit}
use Rattle.rv_qasm.proofs.QubitTexts.{in_three}
use Rattle.rv_qasm.proofs.write.put_named_three.Goals as goal

pub returns : goal.returns
returns g c = λ gate named.
    let texts = c.requires.texts in
    let first = adds_as (c.text.ensures c.args.lines [] (codes ",") texts.listed c.requires.first) c.put_short.ensures in
    let second = adds_as (c.text-2.ensures c.args.lines [] (codes ",") texts.listed c.requires.second) c.put_short-2.ensures in
    let last = adds_as (c.text-3.ensures c.args.lines [] (codes ";\n") texts.last c.requires.third) c.put_short-3.ensures in
    adds_as (in_three gate (codes " ") (qubit c.args.a) (codes ",") (qubit c.args.b) (qubit c.args.c) (codes ";\n"))
    (adds_then (adds_then (adds_as named c.put.ensures) first) (adds_then second last))
