use Rattle.std.proofs.Common.{◌≡◌, ◌-◌, ◌≤◌, length, arith, ap, ◌∙◌, refl}
use Rattle.rv_gate.proofs.inside.GateLemmas.{fits_flip, fits_flip_care}
use Rattle.rv_mct.specs.Blocks.{controls_of, count_lines}
use Rattle.rv_mct.proofs.inside.LongFlips.{clean_divided, length-controls_of}
use Rattle.rv_mct.proofs.block.clean_flip.Goals as goal

pub clean_ladder-requires : goal.clean_ladder-requires
clean_ladder-requires c =
    let cs : c.deref.result.now ≡ controls_of c.args.care c.args.want = c.deref.ensures.0 ∙ c.controls_of-controls.ensures in
    let l1 : length c.deref.result.now ≡ count_lines c.args.care = ap length cs ∙ length-controls_of c.args.care c.args.want in
    let e : count_lines c.args.care - 2 ≤ c.args.extra = c.requires.ready.enough in
    let own = c.requires.ready.own in
    record {
      few = omega (arith, c.requires.ready.few, c.requires.lines);
      some = omega (arith, c.requires.many);
      room = omega (arith, c.requires.lines);
      divided = rw c.requires.lines
          (clean_divided c.args.lines c.args.extra c.args.care c.args.want c.args.target c.deref.result.now
          (fits_flip_care _ c.args.care c.args.want c.args.target c.args.lines refl own.2) (fits_flip _ c.args.care c.args.want c.args.target c.args.lines refl own.2)
          own.1.1 (omega (arith, c.requires.many)) (omega (arith, c.requires.many)) cs);
    }
