use Rattle.std.proofs.Common.{[], ◌∷◌, arith}
use Rattle.rv_io.proofs.Adding.{adds_then, adds_as}
use Rattle.rv_real.specs.Text.{name_at}
use Rattle.rv_real.proofs.GateTexts.{gate_line-text, three_words}
use Rattle.rv_picture.specs.Titles.{written_names}
use Rattle.rv_picture.proofs.title.put_peres.Goals as goal

pub returns : goal.returns
returns g c =
    let names = written_names c.args.names.now in
    let first = name_at names c.args.a in
    let second = name_at names c.args.b in
    let third = name_at names c.args.c in
    adds_as (gate_line-text 112 3 [] (first ∷ second ∷ third ∷ []) (omega arith))
    (adds_then c.put_kind.ensures (adds_as (three_words first second third) (adds_then c.put_operand.ensures (adds_then c.put_operand-2.ensures c.put_operand-3.ensures))))
