use Rattle.std.proofs.Common.{◌∙◌, ap}
use Rattle.rv_gate.specs.Word.{has}
use Rattle.rv_gate.proofs.inside.Mirrors.{from_2, from_4, from_8, from_16, from_32, is_reversed}
use Rattle.rv_gate.proofs.mirror.reversed.Goals as goal

pub returns : goal.returns
returns c place lt =
    let from = is_reversed place lt in
    c.exchanged.ensures place lt
    ∙ c.exchanged-by_sixteens.ensures (from_32 place) from.by_32
    ∙ c.exchanged-by_eights.ensures (from_16 place) from.by_16
    ∙ c.exchanged-by_fours.ensures (from_8 place) from.by_8
    ∙ c.exchanged-by_twos.ensures (from_4 place) from.by_4
    ∙ c.exchanged-by_ones.ensures (from_2 place) from.by_2
    ∙ ap (has c.args.bits) from.by_1
