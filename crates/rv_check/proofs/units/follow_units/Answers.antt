use Rattle.std.proofs.Common.{◌≡◌, ◌+◌, ◌∙◌, length, take, get_or, sym, ap}
use Rattle.rv_net.specs.declared.op.Op.TheVariants.{X}
use Rattle.rv_check.specs.inside.Kept.{kept_after, kept_more}
use Rattle.rv_check.specs.inside.Units.{units_of}
use Rattle.rv_check.proofs.inside.Places.{fits_one, kept_first, kept_next, not_large_from, not_large_init, not_large_more, stands_kept}
use Rattle.rv_check.proofs.inside.Powers.{units_small}
use Rattle.rv_check.proofs.units.follow_units.Goals as goal

pub loop-place-init : goal.loop-place-init
loop-place-init c = record {
  kept = c.alone.ensures ∙ sym (kept_first c.args.ops.now c.args.word);
  small = not_large_init c.args.ops.now c.args.word;
}

pub pass-requires : goal.pass-requires
pass-requires c =
    let s = stands_kept c.args.ops.now c.args.word c.loop-place.place (units_of c.loop-place.units) c.loop-place.invariant.kept c.requires in
    fits_one _ (length c.args.word) (units_of c.loop-place.units).members (c.requires c.loop-place.place (X 0) c.loop-place-test.true) s.on

pub loop-place-preserved : goal.loop-place-preserved
loop-place-preserved c =
    let ops = c.args.ops.now in
    let place = c.loop-place.place in
    let next : units_of c.pass.new.self ≡ kept_after (take (place + 1) ops) c.args.word =
    c.pass.ensures.passed c.if-not-pass.false ∙ ap (λ k. kept_more k (get_or ops place (X 0))) c.loop-place.invariant.kept ∙ sym (kept_next ops c.args.word place (X 0) c.loop-place-test.true) in
    record {
      kept = next;
      small = not_large_more ops c.args.word place c.loop-place.invariant.small
          (not_large_from ops c.args.word (place + 1) (units_of c.pass.new.self) next (units_small c.pass.new.self));
    }
