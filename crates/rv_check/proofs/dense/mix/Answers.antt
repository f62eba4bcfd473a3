use Rattle.std.proofs.Common.{◌+◌, ◌-◌, ◌^◌, ◌∙◌, ap₂, arith, length-set, set}
use Rattle.std.proofs.lemmas.List.{get_or_read}
use Rattle.std.proofs.lemmas.Nat.{le_or_l, le_or_r}
use Rattle.std.specs.Int.Bits.{or_self}
use Rattle.rv_net.specs.Cyclotomic.{nought, plus}
use Rattle.rv_check.specs.inside.Dense.{minus}
use Rattle.rv_check.specs.inside.Small.{AreSmall}
use Rattle.rv_check.proofs.inside.Masks.{next_covers}
use Rattle.rv_check.proofs.inside.Pairs.{mixing_end, mixing_more, mixing_start, pair_small}
use Rattle.rv_check.proofs.dense.mix.Goals as goal

pub loop-place-init : goal.loop-place-init
loop-place-init c = record {
  here = or_self c.place_bit-bit.result;
  len = c.requires.len;
  mixing = mixing_start c.args.lines c.args.line c.place_bit-bit.result c.args.values.now c.requires.line c.place_bit-bit.ensures;
}

pub overflow_sub-low : goal.overflow_sub-low
overflow_sub-low c = omega (arith, c.loop-place.invariant.here, le_or_r c.loop-place.place c.place_bit-bit.result)

smalls : (c : goal.After-index-values-place-in-loop-place) → AreSmall (2 ^ 61) c.index-values-place.result × AreSmall (2 ^ 61) c.index-values-place-in-loop-place.result
smalls c =
    let l = c.loop-place in
    pair_small c.args.lines c.args.line c.place_bit-bit.result l.place c.args.values.now l.values c.requires.line c.place_bit-bit.ensures l.invariant.here l.invariant.len c.loop-place-test.true
    l.invariant.mixing (2 ^ 60) (2 ^ 61) _ _ c.requires.len (omega arith) c.requires.small c.index-values-place.is c.index-values-place-in-loop-place.is

pub plus-requires-clause-left : goal.plus-requires-clause-left
plus-requires-clause-left c = (smalls c).0

pub plus-requires-clause-right : goal.plus-requires-clause-right
plus-requires-clause-right c = (smalls c).1

smalls_then : (c : goal.After-plus) → AreSmall (2 ^ 61) c.index-values-place.result × AreSmall (2 ^ 61) c.index-values-place-in-loop-place.result
smalls_then c =
    let l = c.loop-place in
    pair_small c.args.lines c.args.line c.place_bit-bit.result l.place c.args.values.now l.values c.requires.line c.place_bit-bit.ensures l.invariant.here l.invariant.len c.loop-place-test.true
    l.invariant.mixing (2 ^ 60) (2 ^ 61) _ _ c.requires.len (omega arith) c.requires.small c.index-values-place.is c.index-values-place-in-loop-place.is

pub minus-requires-clause-left : goal.minus-requires-clause-left
minus-requires-clause-left c = (smalls_then c).0

pub minus-requires-clause-right : goal.minus-requires-clause-right
minus-requires-clause-right c = (smalls_then c).1

pub overflow_sub-values : goal.overflow_sub-values
overflow_sub-values c = omega (arith, c.loop-place.invariant.here, le_or_r c.loop-place.place c.place_bit-bit.result)

pub loop-place-smaller : goal.loop-place-smaller
loop-place-smaller c =
    let l = c.loop-place in
    let b = c.place_bit-bit.result in
    omega (arith, c.loop-place-test.true, length-set (set l.values (l.place - b) c.plus.result) l.place c.minus.result, length-set l.values (l.place - b) c.plus.result, le_or_l (l.place + 1) b)

pub loop-place-preserved : goal.loop-place-preserved
loop-place-preserved c =
    let l = c.loop-place in
    let b = c.place_bit-bit.result in
    let low = get_or_read l.values (l.place - b) c.index-values-place.result (omega (arith, c.loop-place-test.true)) c.index-values-place.is nought in
    let high = get_or_read l.values l.place c.index-values-place-in-loop-place.result c.loop-place-test.true c.index-values-place-in-loop-place.is nought in
    record {
      here = next_covers b (l.place + 1);
      len = length-set (set l.values (l.place - b) c.plus.result) l.place c.minus.result ∙ length-set l.values (l.place - b) c.plus.result ∙ l.invariant.len;
      mixing = mixing_more c.args.lines c.args.line b l.place c.args.values.now l.values c.requires.line c.place_bit-bit.ensures l.invariant.here l.invariant.len c.loop-place-test.true l.invariant.mixing
          c.plus.result c.minus.result (c.plus.ensures ∙ ap₂ plus low high) (c.minus.ensures ∙ ap₂ minus low high);
    }

pub returns : goal.returns
returns c =
    mixing_end c.args.lines c.args.line c.place_bit-bit.result c.loop-place.place c.args.values.now c.loop-place.values c.requires.line c.place_bit-bit.ensures c.loop-place-test.false c.loop-place.invariant.mixing
