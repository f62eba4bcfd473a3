use Rattle.std.proofs.Common.{refl, ◌≡◌, ◌-◌, List, length, ◌∙◌, arith, eq-eqb, ne_eqb}
use Rattle.rv_gate.specs.declared.gate.Shape.{Shape}
use Rattle.rv_templ.specs.Images.{turned, others, within}
use Rattle.rv_gate.proofs.AllBelow.{all_below-more}
use Rattle.rv_templ.proofs.inside.TestSteps.{each_hit, each_end, turned_target, other_lines, within_test, within_tested, length-turned_others}
use Rattle.rv_templ.proofs.matching.within.Goals as goal

pub loop-j-init : goal.loop-j-init
loop-j-init c = refl

pub image_lines-requires-clause-target : goal.image_lines-requires-clause-target
image_lines-requires-clause-target c =
    turned_target c.args.r _ c.args.template.now c.turned_gate-gate.result c.requires.template (omega arith) c.turned_gate-gate.ensures

pub returns-then-more-ne0 : goal.returns-then-more-ne0
unfolding within
returns-then-more-ne0 c =
    let gates : List Shape = others c.args.count (turned c.args.r c.args.template.now) c.args.to c.args.care c.args.want in
    let len : length gates ≡ length c.args.template.now - c.args.count = length-turned_others c.args.count c.args.r c.args.template.now c.args.to c.args.care c.args.want in
    each_hit (within_test gates c.args.set) (length gates) c.loop-j.j (omega (arith, len, c.loop-j-test.true))
    (within_tested gates c.args.set c.loop-j.j c.image_lines.result c.difference-more.result
    (other_lines c.args.count c.loop-j.j c.args.r c.args.template.now c.args.to c.args.care c.args.want c.image_lines.result c.turned_gate-gate.result (omega arith) c.turned_gate-gate.ensures c.image_lines.ensures)
    c.difference-more.ensures
    ∙ ne_eqb _ 0 c.if-more-ne0.true)

pub loop-j-preserved : goal.loop-j-preserved
loop-j-preserved c =
    let gates : List Shape = others c.args.count (turned c.args.r c.args.template.now) c.args.to c.args.care c.args.want in
    all_below-more (within_test gates c.args.set) c.loop-j.j c.loop-j.invariant
    (within_tested gates c.args.set c.loop-j.j c.image_lines.result c.difference-more.result
    (other_lines c.args.count c.loop-j.j c.args.r c.args.template.now c.args.to c.args.care c.args.want c.image_lines.result c.turned_gate-gate.result (omega arith) c.turned_gate-gate.ensures c.image_lines.ensures)
    c.difference-more.ensures
    ∙ eq-eqb _ 0 c.if-more-ne0.false)

pub returns : goal.returns
unfolding within
returns c =
    let gates : List Shape = others c.args.count (turned c.args.r c.args.template.now) c.args.to c.args.care c.args.want in
    let len : length gates ≡ length c.args.template.now - c.args.count = length-turned_others c.args.count c.args.r c.args.template.now c.args.to c.args.care c.args.want in
    each_end (within_test gates c.args.set) (length gates) c.loop-j.j (omega (arith, len)) (omega (arith, len)) c.loop-j.invariant
