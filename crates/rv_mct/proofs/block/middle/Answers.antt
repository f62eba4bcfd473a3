use Rattle.std.proofs.Common.{◌≡◌, length, ap, ◌∙◌, arith}
use Rattle.rv_mct.specs.Blocks.{controls_of}
use Rattle.rv_mct.proofs.inside.LongFlips.{length-controls_of}
use Rattle.rv_mct.proofs.inside.Splits.{middle_at}
use Rattle.rv_mct.proofs.block.middle.Goals as goal

pub bounds-deref-len : goal.bounds-deref-len
bounds-deref-len c =
    let cs : c.deref.result.now ≡ controls_of c.args.care c.args.care = c.deref.ensures.0 ∙ c.controls_of-controls.ensures in
    omega (arith, c.requires, c.len.ensures.value, ap length c.controls_of-controls.ensures, ap length cs, length-controls_of c.args.care c.args.care)

pub returns : goal.returns
returns c =
    let cs : c.deref.result.now ≡ controls_of c.args.care c.args.care = c.deref.ensures.0 ∙ c.controls_of-controls.ensures in
    let len : c.len.result ≡ length c.deref.result.now = omega (arith, c.len.ensures.value, ap length c.deref.ensures.0) in
    middle_at c.args.care c.args.care c.len.result c.deref.result.now _ cs c.requires len
