use Rattle.std.proofs.Common.{◌+◌, ◌∙◌, arith}
use Rattle.std.proofs.lemmas.Nat.{le_or_l, le_or_r}
use Rattle.std.specs.Int.Bits.{bit_or, or_self}
use Rattle.rv_check.proofs.inside.Masks.{next_covers}
use Rattle.rv_check.proofs.inside.Pairs.{exchanging_end, exchanging_more, exchanging_skip, exchanging_start, swap_in}
use Rattle.rv_check.proofs.dense.exchange.Goals as goal
use Rattle.rv_check.proofs.dense.exchange.Goals.{then-place-other, else-place-other}

pub loop-place-init : goal.loop-place-init
loop-place-init c = record {
  here = or_self (bit_or c.args.mask c.place_bit-bit.result);
  len = c.requires.len;
  exchanging = exchanging_start c.args.lines c.args.mask c.args.a c.args.b c.place_bit-bit.result c.place_bit-other.result c.args.values.now c.requires.fits c.place_bit-bit.ensures c.place_bit-other.ensures;
}

pub overflow_sub-place : goal.overflow_sub-place
overflow_sub-place c =
    let b = c.place_bit-bit.result in
    omega (arith, c.loop-place.invariant.here, le_or_r c.loop-place.place (bit_or c.args.mask b), le_or_r c.args.mask b)

pub swap-requires-clause-a_in_bounds : goal.swap-requires-clause-a_in_bounds
swap-requires-clause-a_in_bounds c =
    let l = c.loop-place in
    swap_in c.args.lines c.args.mask c.args.a c.args.b c.place_bit-bit.result c.place_bit-other.result c.args.values.now c.requires.fits c.place_bit-bit.ensures c.place_bit-other.ensures
    l.place l.values l.invariant.here l.invariant.len c.loop-place-test.true c.if-place-other.true

pub loop-place-smaller : goal.loop-place-smaller
loop-place-smaller c = omega (arith, c.loop-place-test.true, c.if-place-other.auto.values, le_or_l (c.loop-place.place + 1) (bit_or c.args.mask c.place_bit-bit.result))

pub loop-place-preserved : goal.loop-place-preserved
loop-place-preserved c =
    let l = c.loop-place in
    record {
      here = next_covers (bit_or c.args.mask c.place_bit-bit.result) (l.place + 1);
      len = c.if-place-other.auto.values ∙ l.invariant.len;
      exchanging = elim c.if-place-other.branch [
        | then-place-other w ↦
            exchanging_more c.args.lines c.args.mask c.args.a c.args.b c.place_bit-bit.result c.place_bit-other.result c.args.values.now c.requires.fits c.place_bit-bit.ensures c.place_bit-other.ensures
            l.place l.values l.invariant.here l.invariant.len c.loop-place-test.true c.if-place-other.values w.if-place-other.true (w.values-is ∙ w.swap.ensures.after) l.invariant.exchanging
        | else-place-other w ↦
            rw w.values-is (exchanging_skip c.args.lines c.args.mask c.args.a c.args.b c.place_bit-bit.result c.place_bit-other.result c.args.values.now c.requires.fits c.place_bit-bit.ensures c.place_bit-other.ensures
            l.place l.values l.invariant.here l.invariant.len c.loop-place-test.true w.if-place-other.false l.invariant.exchanging)
      ];
    }

pub returns : goal.returns
returns c =
    exchanging_end c.args.lines c.args.mask c.args.a c.args.b c.place_bit-bit.result c.place_bit-other.result c.args.values.now c.requires.fits c.place_bit-bit.ensures c.place_bit-other.ensures
    c.loop-place.place c.loop-place.values c.loop-place-test.false c.loop-place.invariant.exchanging
