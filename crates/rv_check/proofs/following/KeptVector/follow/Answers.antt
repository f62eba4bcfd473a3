use Rattle.std.proofs.Common.{◌≡◌, ◌+◌, ◌∙◌, length, take, sym, ap, arith, subst, length-take}
use Rattle.rv_net.specs.declared.op.Op.TheVariants.{X}
use Rattle.rv_check.specs.declared.following.Followed.TheVariants.{Agrees}
use Rattle.rv_check.specs.inside.Followed.{is_only}
use Rattle.rv_check.specs.inside.Stands.{On}
use Rattle.rv_check.specs.inside.View.{HasRoom, kept_of}
use Rattle.rv_check.proofs.inside.Places.{exponent_few, members_few_ten, not_zero_and, stands_kept, zero_and}
use Rattle.rv_check.proofs.inside.Standing.{done_here, none_large_at, not_large_here, not_large_on, stands_next, too_large_here}
use Rattle.rv_check.proofs.following.KeptVector.follow.Goals as goal

pub loop-place-init : goal.loop-place-init
loop-place-init c = record {
  stands = stands_kept c.args.ops.now c.args.word c.follow_units-done.result (kept_of c.start.new.self) (c.in_ok-start.ensures.kept ∙ c.follow_units-done.ensures.kept) c.requires.fits;
  room = (c.in_ok-start.ensures.room ∙ c.requires.room.0, c.in_ok-start.ensures.width ∙ c.requires.room.1);
  within = c.follow_units-done.ensures.within;
  small = c.follow_units-done.ensures.small;
}

pub step-requires-clause-lines : goal.step-requires-clause-lines
step-requires-clause-lines c =
    let s = c.loop-place.invariant.stands in
    (length c.args.word, c.requires.fits c.loop-place.place (X 0) c.loop-place-test.true, record { room_is = c.loop-place.invariant.room.0; few = c.requires.lines; each = s.on })

pub step-requires-clause-few : goal.step-requires-clause-few
step-requires-clause-few c =
    let s = c.loop-place.invariant.stands in
    members_few_ten (length c.args.word) c.loop-place.self.members.items c.requires.lines s.on s.apart

pub step-requires-clause-small : goal.step-requires-clause-small
step-requires-clause-small c =
    none_large_at c.args.ops.now c.args.word c.loop-place.place (kept_of c.loop-place.self) c.requires.fits c.loop-place.invariant.stands (c.loop-place.invariant.small c.loop-place.place (omega arith))

pub step-requires-clause-exponent : goal.step-requires-clause-exponent
step-requires-clause-exponent c =
    let ops = c.args.ops.now in
    let le = exponent_few (take c.loop-place.place ops) c.args.word (kept_of c.loop-place.self) c.loop-place.invariant.stands in
    omega (arith, le, length-take c.loop-place.place ops, c.loop-place-test.true, c.requires.few)

pub go_on-requires-clause-on : goal.go_on-requires-clause-on
go_on-requires-clause-on c =
    let ops = c.args.ops.now in
    let place = c.loop-place.place in
    let next = stands_next ops c.args.word place (kept_of c.loop-place.self) (kept_of c.step.new.self) (X 0) c.requires.fits c.loop-place-test.true c.in_ok-step.ensures.kept c.loop-place.invariant.stands in
    subst (λ n. On n c.step.new.self.members.items) (sym c.len.ensures) next.on

pub go_on-requires-clause-exponent : goal.go_on-requires-clause-exponent
go_on-requires-clause-exponent c =
    let ops = c.args.ops.now in
    let place = c.loop-place.place in
    let next = stands_next ops c.args.word place (kept_of c.loop-place.self) (kept_of c.step.new.self) (X 0) c.requires.fits c.loop-place-test.true c.in_ok-step.ensures.kept c.loop-place.invariant.stands in
    omega (arith, exponent_few (take (place + 1) ops) c.args.word (kept_of c.step.new.self) next, length-take (place + 1) ops)

pub loop-place-preserved : goal.loop-place-preserved
loop-place-preserved c =
    let ops = c.args.ops.now in
    let place = c.loop-place.place in
    let next = stands_next ops c.args.word place (kept_of c.loop-place.self) (kept_of c.step.new.self) (X 0) c.requires.fits c.loop-place-test.true c.in_ok-step.ensures.kept c.loop-place.invariant.stands in
    let after = c.in_ok-place.ensures.stands c.args.word (sym c.len.ensures) next in
    record {
      stands = after.0;
      room = subst (λ n. HasRoom n c.go_on.new.self) c.len.ensures c.in_ok-place.ensures.room;
      within = c.in_ok-place.ensures.within;
      small = not_large_on ops c.args.word place _ c.loop-place.invariant.small
          (not_large_here ops c.args.word (place + 1) (kept_of c.step.new.self) c.requires.fits next (sym c.in_ok-step.ensures.large ∙ c.if-branch.false)) after.1;
    }

pub returns-then-branch-clause-answer : goal.returns-then-branch-clause-answer
returns-then-branch-clause-answer c =
    let ops = c.args.ops.now in
    let place = c.loop-place.place in
    let next = stands_next ops c.args.word place (kept_of c.loop-place.self) (kept_of c.step.new.self) (X 0) c.requires.fits c.loop-place-test.true c.in_ok-step.ensures.kept c.loop-place.invariant.stands in
    sym (too_large_here ops c.args.word c.args.image place (kept_of c.step.new.self) c.requires.fits next c.loop-place.invariant.small c.loop-place-test.true (sym c.in_ok-step.ensures.large ∙ c.if-branch.true))

pub returns-then-self-eq0-clause-answer : goal.returns-then-self-eq0-clause-answer
returns-then-self-eq0-clause-answer c =
    let v = c.loop-place.self in
    let only : c.is_only-agrees.result ≡ is_only c.args.image v.members.items = c.is_only-agrees.ensures ∙ ap (is_only c.args.image) c.deref.ensures.value in
    ap Agrees (only ∙ zero_and v.exponent (is_only c.args.image v.members.items) c.if-self-eq0.true)
    ∙ sym (done_here c.args.ops.now c.args.word c.args.image c.loop-place.place (kept_of v) c.requires.fits c.loop-place.invariant.stands c.loop-place-test.false c.loop-place.invariant.small c.requires.image)

pub returns-else-self-eq0-clause-answer : goal.returns-else-self-eq0-clause-answer
returns-else-self-eq0-clause-answer c =
    let v = c.loop-place.self in
    ap Agrees (not_zero_and v.exponent (is_only c.args.image v.members.items) c.if-self-eq0.false)
    ∙ sym (done_here c.args.ops.now c.args.word c.args.image c.loop-place.place (kept_of v) c.requires.fits c.loop-place.invariant.stands c.loop-place-test.false c.loop-place.invariant.small c.requires.image)
