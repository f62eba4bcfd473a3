use Rattle.rv_check.proofs.inside.Wholes.{shows_least, shows_over}
use Rattle.rv_check.proofs.dense.follow_values.Goals as goal

pub returns-clause-shown : goal.returns-clause-shown
returns-clause-shown c = λ x len s.
    let r = c.follow_on-place.ensures.shown x len (shows_over c.args.ops.now x c.args.start c.args.exponent.now c.args.values.now s) in (
      shows_least c.args.ops.now x c.follow_on-place.result c.follow_on-place.new.scale.exponent c.reduce.result c.follow_on-place.new.values c.reduce.new.values
          c.reduce.ensures.values c.reduce.ensures.exponent r.0,
      r.1,
    )
