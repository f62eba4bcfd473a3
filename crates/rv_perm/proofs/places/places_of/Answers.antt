use Rattle.std.proofs.Common.{rules, ◌≡◌, ◌<◌, ℕ, length, get_or, replicate, refl, ◌∙◌, ap, subst, inr, arith}
use Rattle.std.proofs.lemmas.List.{get_or-replicate, get_or_default, length-replicate}
use Rattle.rv_perm.proofs.inside.Tables.{Placed, placed_none, placed_more, placed_out, placed_twice, placed_all}
use Rattle.rv_perm.proofs.places.places_of.Goals as goal

pub loop-place-init : goal.loop-place-init
loop-place-init c =
    let count : ℕ = length c.args.numbers.now in
    let all : c.in-Ok.places.items ≡ replicate count count = search rules in
    placed_none c.args.numbers.now c.in-Ok.places.items
    (ap length all ∙ length-replicate count count)
    (λ v h. ap (λ l. get_or l v 0) all ∙ get_or-replicate count v count 0 h)

pub returns-then-number-count-clause-fault : goal.returns-then-number-count-clause-fault
returns-then-number-count-clause-fault c =
    inr (placed_out c.args.numbers.now c.loop-place.places.items c.loop-place.place _ refl c.loop-place-test.true c.if-number-count.true c.loop-place.invariant)

pub returns-then-first-count-clause-fault : goal.returns-then-first-count-clause-fault
returns-then-first-count-clause-fault c =
    let within : get_or c.args.numbers.now c.loop-place.place 0 < length c.loop-place.places.items = omega (arith, c.loop-place.invariant.len) in
    let read = c.index-first.ensures ∙ get_or_default c.loop-place.places.items (get_or c.args.numbers.now c.loop-place.place 0) c.index-first.result.now 0 within in
    inr (placed_twice c.args.numbers.now c.loop-place.places.items c.loop-place.place _ c.index-first.result.now refl c.loop-place-test.true c.if-number-count.false read c.if-first-count.true c.loop-place.invariant)

pub loop-place-preserved : goal.loop-place-preserved
loop-place-preserved c =
    let within : get_or c.args.numbers.now c.loop-place.place 0 < length c.loop-place.places.items = omega (arith, c.loop-place.invariant.len) in
    let read = c.index-first.ensures ∙ get_or_default c.loop-place.places.items (get_or c.args.numbers.now c.loop-place.place 0) c.index-first.result.now 0 within in
    placed_more c.args.numbers.now c.loop-place.places.items c.loop-place.place _ refl c.loop-place-test.true c.if-number-count.false (omega arith) c.loop-place.invariant

pub returns-clause-places : goal.returns-clause-places
returns-clause-places c =
    let P : ℕ → Type 0 = Placed c.args.numbers.now c.loop-place.places.items in
    let all : c.loop-place.place ≡ length c.args.numbers.now = omega arith in
    placed_all c.args.numbers.now c.loop-place.places.items (subst P all c.loop-place.invariant)
