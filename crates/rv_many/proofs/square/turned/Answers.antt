use Rattle.std.proofs.Common.{◌+◌, ◌*◌, ◌∙◌, ap, arith}
use Rattle.rv_gate.specs.Word.{has}
use Rattle.rv_many.proofs.inside.Squares.{after_bits, after_pairs, turned_from}
use Rattle.rv_many.proofs.square.turned.Goals as goal

pub returns : goal.returns
returns c i j li lj =
    let k = 8 * i + j in
    let from = turned_from i j li lj in
    c.exchanged.ensures k (omega arith)
    ∙ c.exchanged-by_pairs.ensures (after_pairs k) from.0
    ∙ c.exchanged-by_bits.ensures (after_bits k) from.1
    ∙ ap (has c.args.square) from.2
