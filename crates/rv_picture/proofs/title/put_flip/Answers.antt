use Rattle.std.proofs.Common.{[], ◌∷◌, arith}
use Rattle.rv_io.proofs.Adding.{adds_then, adds_as}
use Rattle.rv_real.specs.Text.{controls_from, name_at}
use Rattle.rv_real.proofs.GateTexts.{gate_line-text, one_word}
use Rattle.rv_picture.specs.Titles.{written_names}
use Rattle.rv_picture.proofs.title.put_flip.Goals as goal

pub returns : goal.returns
returns g c =
    let names = written_names c.args.names.now in
    let controls = controls_from 0 names c.args.care c.args.want in
    let target = name_at names c.args.target in
    let count = c.control_count.ensures.count c.args.want in
    adds_as (gate_line-text 116 _ controls (target ∷ []) (omega (arith, count)))
    (adds_then c.put_kind.ensures (adds_then c.put_controls.ensures (adds_as (one_word target) c.put_operand.ensures)))
