use Rattle.std.proofs.Common.{◌≡◌, ◌∙◌, ◌^◌, ◌+◌, ◌*◌, ◌≤◌, [], length, take, fold, filter, ap, arith, length-take, rules}
use Rattle.std.proofs.lemmas.List.{take_all}
use Rattle.std.proofs.lemmas.List.Elements.{All-same, All-take, All-nil, filter_from_retain}
use Rattle.rv_check.specs.inside.Kept.{is_present, mixed, spread}
use Rattle.rv_check.specs.inside.Small.{AreSmall}
use Rattle.rv_check.proofs.inside.Growing.{length-fold_spread, on-fold_spread, within-fold_spread}
use Rattle.rv_check.proofs.mixing.mix.Goals as goal

pub spread-requires-clause-lines : goal.spread-requires-clause-lines
spread-requires-clause-lines c =
    let lines = c.requires.lines.0 in
    let before = take c.loop-member.member-index c.args.members.now in
    let on = c.requires.lines.2 in
    let own : length c.member-item.result.word ≡ lines = ap (λ m. length m.word) c.member-item.is ∙ on.each _ _ c.loop-member-test.true in
    rw own (record {
      room_is = c.loop-member.auto.places ∙ on.room_is;
      few = on.few;
      each = All-same (λ m. length m.word ≡ lines) _ _ c.loop-member.invariant.items
          (on-fold_spread lines c.args.line [] before (All-nil (λ m. length m.word ≡ lines)) (All-take (λ m. length m.word ≡ lines) c.loop-member.member-index c.args.members.now on.each));
    })

pub spread-requires-clause-few : goal.spread-requires-clause-few
spread-requires-clause-few c =
    let before = take c.loop-member.member-index c.args.members.now in
    omega (arith, ap length c.loop-member.invariant.items, length-fold_spread c.args.line [] before, length-take c.loop-member.member-index c.args.members.now, c.requires.few)

pub spread-requires-clause-small : goal.spread-requires-clause-small
spread-requires-clause-small c =
    let before = take c.loop-member.member-index c.args.members.now in
    let le : 0 + 2 * 2 ^ 100 * length before ≤ 2 ^ 119 = omega (arith, length-take c.loop-member.member-index c.args.members.now, c.requires.few) in
    All-same (λ m. AreSmall (2 ^ 119) m.value) _ _ c.loop-member.invariant.items
    (within-fold_spread 0 (2 ^ 100) (2 ^ 119) c.args.line [] before (All-nil (λ m. AreSmall 0 m.value)) (All-take (λ m. AreSmall (2 ^ 100) m.value) c.loop-member.member-index c.args.members.now c.requires.small) le)

pub returns : goal.returns
unfolding mixed
returns c =
    let kept : c.retain.new.self.items ≡ filter is_present c.loop-member.next.items =
    filter_from_retain _ is_present (λ p x b q k. search rules) _ _ _ c.retain.ensures.filtered in
    let all : take c.loop-member.member-index c.args.members.now ≡ c.args.members.now = take_all c.loop-member.member-index c.args.members.now c.loop-member-test.false in
    kept ∙ ap (filter is_present) (c.loop-member.invariant.items ∙ ap (fold (spread c.args.line) []) all)
