use Rattle.std.proofs.Common.{◌∙◌, ◌+◌, ◌/◌, ◌^◌, refl, rules, arith}
use Rattle.std.proofs.Math.Facts.{Fits-mask}
use Rattle.rv_simulate.proofs.inside.Digits.{digits_all, digits_more, digits_none}
use Rattle.rv_simulate.proofs.answers.set_digits.Goals as goal

pub loop-line-init : goal.loop-line-init
loop-line-init c = record { room = refl; eights = refl; digits = digits_none c.ones-ones.result }

pub overflow_cast-ones : goal.overflow_cast-ones
overflow_cast-ones c = Fits-mask (c.ones-ones.result / 2 ^ c.loop-line.line) 8 tt

pub loop-line-preserved : goal.loop-line-preserved
loop-line-preserved c =
    let line = c.loop-line.line in
    let before = c.loop-line.invariant in
    record {
      room = search rules;
      eights = omega (arith, before.eights);
      digits = digits_more c.ones-ones.result line (line + 8) c.loop-line.text c.copy_from_slice.new.self refl (omega (arith, before.room, c.requires.room)) (c.copy_from_slice.ensures.after ∙ c.digits_of.ensures) before.digits;
    }

pub returns-clause-digits : goal.returns-clause-digits
returns-clause-digits c = digits_all c.args.word c.ones-ones.result c.loop-line.line c.loop-line.text c.ones-ones.ensures (omega (arith, c.loop-line-test.false)) c.loop-line.invariant.digits
