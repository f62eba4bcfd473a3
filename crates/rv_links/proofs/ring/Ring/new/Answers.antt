use Rattle.std.proofs.Common.{◌≡◌, ◌<◌, ◌^◌, arith, ◌∙◌}
use Rattle.rv_links.proofs.inside.RingLemmas.{new_by, is_ring, ids_are}
use Rattle.rv_links.proofs.ring.Ring.new.Goals as goal

pub invariant_of-ring : goal.invariant_of-ring
invariant_of-ring c =
    let e : c.loop-i.i ≡ c.args.room = omega arith in
    let small : c.args.room < 2 ^ 32 = omega arith in
    is_ring _ _ _ _ (new_by _ _ _ _ _ c.in_ok-push-2.ensures.items (c.in_ok-prev.ensures.items ∙ c.deref.ensures.value) e small c.loop-i.invariant)

pub returns-clause-empty : goal.returns-clause-empty
returns-clause-empty c =
    let e : c.loop-i.i ≡ c.args.room = omega arith in
    let small : c.args.room < 2 ^ 32 = omega arith in
    ids_are _ _ _ _ (new_by _ _ _ _ _ c.in_ok-push-2.ensures.items (c.in_ok-prev.ensures.items ∙ c.deref.ensures.value) e small c.loop-i.invariant)
