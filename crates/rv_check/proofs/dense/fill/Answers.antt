use Rattle.std.proofs.Common.{◌≡◌, ◌^◌, ◌∙◌, ◌≤◌, length, get_or, set, ap, arith, length-set}
use Rattle.std.proofs.lemmas.List.{take_all}
use Rattle.std.proofs.lemmas.List.Elements.{All-same, All-set}
use Rattle.std.proofs.Math.Pow.{pow_mono}
use Rattle.rv_gate.specs.Word.{number_of}
use Rattle.rv_gate.specs.inside.laws.WordLaws.{number_of-lt}
use Rattle.rv_net.specs.Cyclotomic.{nought}
use Rattle.rv_check.specs.inside.Small.{AreSmall}
use Rattle.rv_check.specs.inside.Stands.{value_at}
use Rattle.rv_check.proofs.inside.Collected.{taken_more}
use Rattle.rv_check.proofs.inside.Filling.{erased_small, erased_taken}
use Rattle.rv_check.proofs.inside.Numbers.{from_numbers}
use Rattle.rv_check.proofs.dense.fill.Goals as goal

pub loop-member-init : goal.loop-member-init
loop-member-init c = record {
  len = c.erase.auto.values ∙ c.requires.len;
  small = All-same (AreSmall (2 ^ 55)) _ _ c.erase.ensures (erased_small (2 ^ 55) c.args.values.now);
  taken = λ apart z l. ap (λ vs. get_or vs (number_of z) nought) c.erase.ensures ∙ erased_taken c.args.lines c.args.values.now c.args.members.now z l;
}

pub offset_bounds-values-number : goal.offset_bounds-values-number
offset_bounds-values-number c =
    let word = c.member-item.result.word in
    let own : length word ≡ c.args.lines = ap (λ m. length m.word) c.member-item.is ∙ c.requires.on _ _ c.loop-member-test.true in
    let room : 2 ^ length word ≡ 2 ^ c.args.lines = ap (λ k. 2 ^ k) own in
    let few : 2 ^ c.args.lines ≤ 2 ^ 10 = pow_mono c.requires.few_lines in
    omega (arith, c.number.ensures, number_of-lt word, room, few)

pub bounds-values-number : goal.bounds-values-number
bounds-values-number c =
    let word = c.member-item.result.word in
    let own : length word ≡ c.args.lines = ap (λ m. length m.word) c.member-item.is ∙ c.requires.on _ _ c.loop-member-test.true in
    let room : 2 ^ length word ≡ 2 ^ c.args.lines = ap (λ k. 2 ^ k) own in
    omega (arith, c.number.ensures, number_of-lt word, room, c.loop-member.invariant.len)

pub loop-member-preserved : goal.loop-member-preserved
loop-member-preserved c =
    let l = c.loop-member in
    let ms = c.args.members.now in
    let m = c.member-item.result in
    let number : c.number.result ≡ number_of (get_or ms l.member-index m).word = c.number.ensures ∙ ap (λ o. number_of o.word) c.member-item.is in
    let value : c.in-Some.value ≡ (get_or ms l.member-index m).value = c.in-Some.ensures.0 ∙ ap (λ o. o.value) c.member-item.is in
    record {
      len = length-set l.values c.number.result c.in-Some.value ∙ l.invariant.len;
      small = All-set (AreSmall (2 ^ 55)) l.values c.number.result c.in-Some.value c.in-Some.ensures.1 l.invariant.small;
      taken = λ apart z len.
          ap (λ k. get_or (set l.values k c.in-Some.value) (number_of z) nought) number
          ∙ taken_more c.args.lines l.values ms l.member-index m c.in-Some.value l.invariant.len c.requires.on apart c.loop-member-test.true value (l.invariant.taken apart) z len;
    }

pub returns-clause-shown : goal.returns-clause-shown
returns-clause-shown c = λ yes apart.
    let l = c.loop-member in
    from_numbers (value_at c.args.members.now) c.args.lines l.values nought l.invariant.len
    (λ z len. l.invariant.taken apart z len ∙ ap (λ ms. value_at ms z) (take_all l.member-index c.args.members.now c.loop-member-test.false))
