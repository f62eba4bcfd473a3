use Rattle.std.proofs.Common.{◌≡◌, ◌∙◌, ap, sym, rules}
use Rattle.rv_net.specs.Cyclotomic.{unity, times_w_power}
use Rattle.rv_net.specs.Op.{phase_of}
use Rattle.rv_check.proofs.inside.Powers.{power_after-is}
use Rattle.rv_check.proofs.units.move_unit.Goals as goal

pub returns-then-moves_words : goal.returns-then-moves_words
returns-then-moves_words c =
    let unit = c.args.unit.now in
    let value : times_w_power c.power_after-unit.result unity ≡ times_w_power (phase_of c.args.op unit.word) (times_w_power unit.power unity) =
    power_after-is unit.power c.phase_of.result c.power_after-unit.result unity c.power_after-unit.ensures
    ∙ ap (λ q. times_w_power q (times_w_power unit.power unity)) c.phase_of.ensures.value in
    let word = c.goes_to-unit.ensures in
    (λ i. record { word = word i; value = value i })

pub returns-else-moves_words : goal.returns-else-moves_words
returns-else-moves_words c =
    let unit = c.args.unit.now in
    let value : times_w_power c.power_after-unit.result unity ≡ times_w_power (phase_of c.args.op unit.word) (times_w_power unit.power unity) =
    power_after-is unit.power c.phase_of.result c.power_after-unit.result unity c.power_after-unit.ensures
    ∙ ap (λ q. times_w_power q (times_w_power unit.power unity)) c.phase_of.ensures.value in
    let word = sym (c.moves_words.ensures (search rules) unit.word) in
    (λ i. record { word = word i; value = value i })
