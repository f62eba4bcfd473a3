use Rattle.std.proofs.Common.{◌≡◌, ◌<◌, ◌∙◌, length, get_or, set, sym, ap, ap₂, arith, rules, vec_len}
use Rattle.std.proofs.lemmas.List.{get_or_default}
use Rattle.rv_gate.specs.Word.{ones_of}
use Rattle.rv_gate.proofs.inside.Ones.{ones_of-lt}
use Rattle.rv_net.specs.Cyclotomic.{plus}
use Rattle.rv_check.specs.declared.member.Member.{Member}
use Rattle.rv_check.proofs.Words.{same_from_test, other_from_test}
use Rattle.rv_check.proofs.inside.Adding.{IsNew, added_at_place, added_at_end, new_at_end, placed_at_end}
use Rattle.rv_check.proofs.mixing.add.Goals.{else-place-len-via-then-place-len+else-eq, else-place-len-via-else-place-len}
use Rattle.rv_check.proofs.mixing.add.Goals as goal

pub returns-then-eq-clause-items : goal.returns-then-eq-clause-items
returns-then-eq-clause-items c =
    let items = c.args.members.now.items in
    let place = c.from-place.result in
    let first = c.index.result.now in
    let within : place < length items = omega (arith, c.if-place-len.true, c.len.ensures) in
    let at : first ≡ get_or items place first = c.index.ensures in
    let at2 : c.index-then-eq.result.now ≡ get_or items place first = c.index-then-eq.ensures ∙ get_or_default items place c.index-then-eq.result.now first within in
    let at3 : c.index_mut.result.now ≡ get_or items place first = c.index_mut.ensures.value ∙ get_or_default items place c.index_mut.result.now first within in
    let word : (get_or items place first).word ≡ c.args.word = ap (λ m. m.word) (sym at) ∙ same_from_test _ _ (sym c.eq.ensures ∙ c.if-eq.true) in
    ap (set items place) (ap₂ (λ (m : Member) v. record { word = m.word; value = v }) at3 (c.plus.ensures ∙ ap (λ m. plus m.value c.args.value) at2))
    ∙ sym (added_at_place c.args.places.now items c.args.word c.args.value place first c.requires.placed within word)

is-new : (c : goal.In_ok-push) → IsNew c.args.members.now.items c.args.word
is-new c =
    let items = c.args.members.now.items in
    let place : c.from-place.result ≡ get_or c.args.places.now (ones_of c.args.word) 0 = c.from-place.ensures ∙ ap (λ k. get_or c.args.places.now k 0) c.ones-ones.ensures in
    new_at_end c.args.places.now items c.args.word c.from-place.result place c.requires.placed
    (λ d lt. elim c.else-place-len.branch [
      | else-place-len-via-then-place-len+else-eq w ↦
          λ same. other_from_test _ _ (sym w.eq.ensures ∙ w.if-eq.false)
          (ap (λ m. m.word) (w.index.ensures ∙ get_or_default items c.from-place.result w.index.result.now d lt) ∙ same)
      | else-place-len-via-else-place-len w ↦ λ same. absurd (omega (arith, w.if-place-len.false, c.len.ensures, lt))
    ])

pub returns-in_ok-push-clause-items : goal.returns-in_ok-push-clause-items
returns-in_ok-push-clause-items c = c.in_ok-push.ensures.items ∙ sym (added_at_end c.args.members.now.items c.args.word c.args.value (is-new c))

pub returns-in_ok-push-clause-placed : goal.returns-in_ok-push-clause-placed
returns-in_ok-push-clause-placed c =
    let room : ones_of c.args.word < length c.args.places.now = omega (arith, ones_of-lt c.args.word, c.requires.lines.room_is) in
    let len : vec_len c.args.members.now ≡ length c.args.members.now.items = search rules in
    rw (c.in_ok-push.ensures.items, c.ones-ones.ensures, c.len-else-place-len.ensures, len)
    (placed_at_end c.args.places.now c.args.members.now.items c.args.word c.args.value c.requires.placed c.requires.lines.each (is-new c) room)
