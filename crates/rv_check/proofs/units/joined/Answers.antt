use Rattle.rv_gate.proofs.Words.{same_word-is}
use Rattle.std.proofs.Common.{◌≡◌, ◌∙◌, [], ◌∷◌, cond, not, set, ap, sym, arith}
use Rattle.rv_gate.specs.Word.{bit_of}
use Rattle.rv_net.specs.Cyclotomic.{negated, unity, times_w_power}
use Rattle.rv_check.proofs.inside.Powers.{joined-difference, joined-sum, opposite-is, opposite_from, same_power}
use Rattle.rv_check.proofs.units.joined.Goals.{then-bit, else-bit}
use Rattle.rv_check.proofs.units.joined.Goals as goal

pub returns-then-second-power : goal.returns-then-second-power
returns-then-second-power c =
    let first = c.args.first in
    let second = c.args.second in
    let other : second.word ≡ set first.word c.args.line (not (bit_of first.word c.args.line)) =
    same_word-is _ _ (sym c.is_same_word.ensures ∙ c.if-not-is_same_word.false)
    ∙ c.with_bit.ensures ∙ ap (λ b. set first.word c.args.line (not b)) c.bit-bit.ensures in
    (λ i. record { members = record { word = c.with_bit-then-second-power.ensures i; value = times_w_power first.power unity } ∷ []; exponent = 0 })
    ∙ sym (joined-sum c.args.line first.word second.word first.power _ c.requires other
    (same_power second.power first.power unity (omega (arith, c.if-second-power.true))))

pub returns-after-bit : goal.returns-after-bit
returns-after-bit c =
    let first = c.args.first in
    let second = c.args.second in
    let v = times_w_power first.power unity in
    let bit = bit_of first.word c.args.line in
    let other : second.word ≡ set first.word c.args.line (not bit) =
    same_word-is _ _ (sym c.is_same_word.ensures ∙ c.if-not-is_same_word.false)
    ∙ c.with_bit.ensures ∙ ap (λ b. set first.word c.args.line (not b)) c.bit-bit.ensures in
    let value : times_w_power c.if-bit.result unity ≡ cond bit (negated v) v =
    elim c.if-bit.branch [
      | then-bit w ↦
          ap (λ q. times_w_power q unity) w.result-is ∙ opposite-is first.power c.power_after-opposite.result unity c.power_after-opposite.ensures
          ∙ ap (λ b. cond b (negated v) v) (sym (sym c.bit-bit.ensures ∙ w.if-bit.true))
      | else-bit w ↦
          ap (λ q. times_w_power q unity) w.result-is
          ∙ ap (λ b. cond b (negated v) v) (sym (sym c.bit-bit.ensures ∙ w.if-bit.false))
    ] in
    (λ i. record { members = record { word = c.with_bit-then-second-opposite.ensures i; value = value i } ∷ []; exponent = 0 })
    ∙ sym (joined-difference c.args.line first.word second.word first.power _ c.requires other
    (opposite_from first.power second.power c.power_after-opposite.result unity c.power_after-opposite.ensures (omega (arith, c.if-second-opposite.true))))
