use Rattle.std.proofs.Common.{[], ◌∷◌, arith}
use Rattle.rv_io.proofs.Adding.{adds_then, adds_as}
use Rattle.rv_real.specs.Text.{controls_from, name_at}
use Rattle.rv_real.proofs.GateTexts.{gate_line-text, two_words}
use Rattle.rv_picture.specs.Titles.{written_names}
use Rattle.rv_picture.proofs.title.put_swap.Goals as goal

pub returns : goal.returns
returns g c =
    let names = written_names c.args.names.now in
    let controls = controls_from 0 names c.args.controls.0 c.args.controls.1 in
    let a = name_at names c.args.a in
    let b = name_at names c.args.b in
    let count = c.control_count.ensures.count c.args.controls.1 in
    adds_as (gate_line-text 102 _ controls (a ∷ b ∷ []) (omega (arith, count)))
    (adds_then c.put_kind.ensures (adds_then c.put_controls.ensures (adds_as (two_words a b) (adds_then c.put_operand.ensures c.put_operand-2.ensures))))
