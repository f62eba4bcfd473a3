use Rattle.std.proofs.Common.{refl, length, ◌∙◌, arith}
use Rattle.rv_templ.specs.Images.{turned, fits_window}
use Rattle.rv_gate.proofs.AllBelow.{all_below-more}
use Rattle.rv_templ.proofs.inside.TestSteps.{each_hit, each_end, turned_target, match_test, match_tested}
use Rattle.rv_templ.proofs.matching.fits_window.Goals as goal

pub loop-j-init : goal.loop-j-init
loop-j-init c = refl

pub image_of-image-requires-clause-target : goal.image_of-image-requires-clause-target
image_of-image-requires-clause-target c =
    turned_target c.args.r c.loop-j.j c.args.template.now c.turned_gate-gate.result c.requires.template (omega arith) c.turned_gate-gate.ensures

pub returns-then-not-same : goal.returns-then-not-same
unfolding fits_window
returns-then-not-same c =
    each_hit (match_test c.args.window.now (turned c.args.r c.args.template.now) c.args.to c.args.care c.args.want) (length c.args.window.now) c.loop-j.j c.loop-j-test.true
    (match_tested c.args.window.now (turned c.args.r c.args.template.now) c.args.to c.args.care c.args.want c.loop-j.j c.index-window-j.result c.turned_gate-gate.result c.image_of-image.result c.same_gate-same.result
    c.loop-j-test.true c.index-window-j.is c.turned_gate-gate.ensures c.image_of-image.ensures c.same_gate-same.ensures ∙ c.if-not-same.true)

pub loop-j-preserved : goal.loop-j-preserved
loop-j-preserved c =
    all_below-more (match_test c.args.window.now (turned c.args.r c.args.template.now) c.args.to c.args.care c.args.want) c.loop-j.j c.loop-j.invariant
    (match_tested c.args.window.now (turned c.args.r c.args.template.now) c.args.to c.args.care c.args.want c.loop-j.j c.index-window-j.result c.turned_gate-gate.result c.image_of-image.result c.same_gate-same.result
    c.loop-j-test.true c.index-window-j.is c.turned_gate-gate.ensures c.image_of-image.ensures c.same_gate-same.ensures ∙ c.if-not-same.false)

pub returns : goal.returns
unfolding fits_window
returns c =
    each_end (match_test c.args.window.now (turned c.args.r c.args.template.now) c.args.to c.args.care c.args.want) (length c.args.window.now) c.loop-j.j (omega arith) (omega arith) c.loop-j.invariant
