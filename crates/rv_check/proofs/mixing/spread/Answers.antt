use Rattle.std.proofs.Common.{◌≡◌, ◌∙◌, ◌^◌, cond, length, ap, arith, length-set}
use Rattle.std.proofs.lemmas.List.Elements.{All-same}
use Rattle.rv_net.specs.Cyclotomic.{negated}
use Rattle.rv_check.specs.inside.Kept.{added, spread}
use Rattle.rv_check.specs.inside.Small.{AreSmall}
use Rattle.rv_check.proofs.inside.Small.{small_wider}
use Rattle.rv_check.proofs.inside.Growing.{length-added, on-added, within-added, signed_small}
use Rattle.rv_check.proofs.mixing.spread.Goals as goal

pub add-requires-2-clause-lines : goal.add-requires-2-clause-lines
add-requires-2-clause-lines c =
    let n = length c.args.member.word in
    let first : length c.with_bit.result ≡ n = ap length c.with_bit.ensures ∙ length-set _ _ _ in
    let second : length c.with_bit-2.result ≡ n = ap length c.with_bit-2.ensures ∙ length-set _ _ _ in
    rw second (record {
      room_is = c.add.auto.places ∙ c.requires.lines.room_is;
      few = c.requires.lines.few;
      each = All-same (λ m. length m.word ≡ n) _ _ c.in_ok-add.ensures.items (on-added n c.args.members.now.items c.with_bit.result c.args.member.value c.requires.lines.each first);
    })

pub add-requires-2-clause-few : goal.add-requires-2-clause-few
add-requires-2-clause-few c = omega (arith, ap length c.in_ok-add.ensures.items, length-added c.args.members.now.items c.with_bit.result c.args.member.value, c.requires.few)

pub add-requires-2-clause-small : goal.add-requires-2-clause-small
add-requires-2-clause-small c =
    All-same (λ m. AreSmall (2 ^ 120) m.value) _ _ c.in_ok-add.ensures.items
    (within-added (2 ^ 119) (2 ^ 119) (2 ^ 120) c.args.members.now.items c.with_bit.result c.args.member.value c.requires.small c.requires.value (omega arith))

pub add-requires-2-clause-value : goal.add-requires-2-clause-value
add-requires-2-clause-value c =
    rw c.signed-other.ensures (small_wider (2 ^ 119) (2 ^ 120) _ (omega arith) (signed_small (2 ^ 119) c.bit.result c.args.member.value c.requires.value))

pub returns-clause-items : goal.returns-clause-items
unfolding spread
returns-clause-items c =
    let v = c.args.member.value in
    let first = c.in_ok-add.ensures.items ∙ ap (λ w. added c.args.members.now.items w v) c.with_bit.ensures in
    let sign = c.signed-other.ensures ∙ ap (λ b. cond b (negated v) v) c.bit.ensures in
    c.in_ok-add-2.ensures.items ∙ (λ i. added (first i) (c.with_bit-2.ensures i) (sign i))
