use Rattle.std.proofs.Common.{ℕ}
use Rattle.rv_joined.specs.declared.state.State.{State}
use Rattle.rv_joined.specs.inside.Brings.{FollowedSoFar}
use Rattle.rv_joined.proofs.inside.Joins.{followed_none, got}
use Rattle.rv_joined.proofs.certificate.follow.Goals as goal

pub loop-item-init : goal.loop-item-init
loop-item-init c = followed_none c.args.setup c.args.terms.now c.args.state.now c.args.flips.now

pub loop-item-preserved : goal.loop-item-preserved
loop-item-preserved c =
    let Here : ℕ → State → State → Type 0 =
    λ next begin state. FollowedSoFar c.args.setup c.args.terms.now begin c.args.flips.now next state in
    got
    (λ (after : ℕ). (begin : State) → Here c.loop-item.next begin c.loop-item.state → Here after begin c.follow_item.new.state)
    c.in_ok-after.field-0 c.in-Some.after c.in-Some.is c.in_ok-after.ensures c.args.state.now c.loop-item.invariant
