use Rattle.std.proofs.Common.{◌∙◌, arith}
use Rattle.rv_net.specs.declared.op.Op.TheVariants.{X}
use Rattle.rv_check.proofs.inside.Steps.{shows_next, shows_room, wider}
use Rattle.rv_check.proofs.dense.follow_on.Goals as goal

pub loop-place-preserved : goal.loop-place-preserved
loop-place-preserved c =
    let l = c.loop-place in
    record {
      from = omega (arith, l.invariant.from);
      within = omega (arith, c.loop-place-test.true);
      len = c.step.auto.values ∙ c.make_room.auto.values ∙ l.invariant.len;
      small = c.step.ensures.small;
      bits = c.step.ensures.bits;
      exponent = omega (arith, l.invariant.exponent, c.make_room.ensures.exponent, c.step.ensures.exponent);
      shown = λ x len s.
          shows_next c.args.ops.now x c.args.lines c.args.start l.place c.make_room.new.values c.step.new.values c.make_room.new.scale.exponent c.step.new.scale.exponent (X 0) len c.requires.fits c.loop-place-test.true
          c.step.ensures.done (wider c.step.new.scale.bits 61 c.step.new.values c.step.ensures.bits c.step.ensures.small)
          (shows_room c.args.ops.now x c.args.start l.place l.values c.make_room.new.values l.scale.exponent c.make_room.new.scale.exponent (c.make_room.ensures.shown c.args.ops.now x l.place) (l.invariant.shown x len s));
    }

pub returns-clause-small : goal.returns-clause-small
returns-clause-small c = wider c.loop-place.scale.bits 61 c.loop-place.values c.loop-place.invariant.bits c.loop-place.invariant.small
