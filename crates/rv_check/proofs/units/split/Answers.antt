use Rattle.std.proofs.Common.{◌≡◌, ◌∙◌, [], ◌∷◌, cond, ap, sym}
use Rattle.rv_gate.specs.Word.{bit_of}
use Rattle.rv_net.specs.Cyclotomic.{negated, unity, times_w_power}
use Rattle.rv_check.proofs.inside.Powers.{opposite-is, split-is}
use Rattle.rv_check.proofs.units.split.Goals.{then-bit, else-bit}
use Rattle.rv_check.proofs.units.split.Goals as goal

pub returns : goal.returns
returns c =
    let p = c.args.unit.power in
    let value : times_w_power c.if-bit.other unity ≡ cond (bit_of c.args.unit.word c.args.line) (negated (times_w_power p unity)) (times_w_power p unity) =
    elim c.if-bit.branch [
      | then-bit w ↦
          ap (λ q. times_w_power q unity) w.other-is ∙ opposite-is p w.power_after-other.result unity w.power_after-other.ensures
          ∙ ap (λ b. cond b (negated (times_w_power p unity)) (times_w_power p unity)) (sym (sym c.bit.ensures ∙ w.if-bit.true))
      | else-bit w ↦
          ap (λ q. times_w_power q unity) w.other-is
          ∙ ap (λ b. cond b (negated (times_w_power p unity)) (times_w_power p unity)) (sym (sym c.bit.ensures ∙ w.if-bit.false))
    ] in
    let first = c.with_bit.ensures in
    let second = c.with_bit-2.ensures in
    (λ i. record {
      members = record { word = first i; value = times_w_power p unity } ∷ record { word = second i; value = value i } ∷ [];
      exponent = 1;
    }) ∙ sym (split-is c.args.line c.args.unit.word p c.requires)
