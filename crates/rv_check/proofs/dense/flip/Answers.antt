use Rattle.std.proofs.Common.{◌+◌, arith}
use Rattle.std.proofs.lemmas.Nat.{le_or_l, le_or_r}
use Rattle.std.specs.Int.Bits.{bit_or, or_self}
use Rattle.rv_check.proofs.inside.Masks.{next_covers}
use Rattle.rv_check.proofs.inside.Pairs.{flipping_end, flipping_more, flipping_start}
use Rattle.rv_check.proofs.dense.flip.Goals as goal

pub loop-place-init : goal.loop-place-init
loop-place-init c = record {
  here = or_self (bit_or c.args.mask c.place_bit-bit.result);
  flipping = flipping_start c.args.lines c.args.mask c.args.line c.place_bit-bit.result c.args.values.now c.requires.line c.place_bit-bit.ensures;
}

pub overflow_sub-place : goal.overflow_sub-place
overflow_sub-place c =
    let b = c.place_bit-bit.result in
    omega (arith, c.loop-place.invariant.here, le_or_r c.loop-place.place (bit_or c.args.mask b), le_or_r c.args.mask b)

pub loop-place-smaller : goal.loop-place-smaller
loop-place-smaller c = omega (arith, c.loop-place-test.true, c.swap.ensures.len, le_or_l (c.loop-place.place + 1) (bit_or c.args.mask c.place_bit-bit.result))

pub loop-place-preserved : goal.loop-place-preserved
loop-place-preserved c =
    let l = c.loop-place in
    let b = c.place_bit-bit.result in
    record {
      here = next_covers (bit_or c.args.mask b) (l.place + 1);
      flipping = flipping_more c.args.lines c.args.mask c.args.line b c.args.values.now c.requires.line c.place_bit-bit.ensures l.place l.values c.swap.new.self l.invariant.here
          c.loop-place-test.true c.swap.ensures.after l.invariant.flipping;
    }

pub returns : goal.returns
returns c =
    flipping_end c.args.lines c.args.mask c.args.line c.place_bit-bit.result c.args.values.now c.requires.line c.place_bit-bit.ensures c.loop-place.place c.loop-place.values
    c.loop-place-test.false c.loop-place.invariant.flipping
