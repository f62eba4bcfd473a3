use Rattle.std.proofs.Common.{◌≡◌, ◌≤◌, ◌+◌, ◌-◌, List, length, ap, sym, ◌∙◌, arith}
use Rattle.std.specs.Prelude.{count_ones}
use Rattle.rv_gate.specs.declared.gate.Shape.{Shape}
use Rattle.rv_templ.specs.inside.Sums.{sum_below}
use Rattle.rv_templ.specs.Images.{turned, others}
use Rattle.rv_templ.proofs.inside.FoldLemmas.{sum_none}
use Rattle.rv_templ.proofs.LoopSteps.{size_small}
use Rattle.rv_templ.proofs.inside.Incidences.{size_at, incidences-sum}
use Rattle.rv_templ.proofs.inside.TestSteps.{turned_target, other_lines, other_sum_more, length-turned_others}
use Rattle.rv_templ.proofs.matching.other_sum.Goals as goal

pub loop-j-init : goal.loop-j-init
loop-j-init c = record {
  value = sym (sum_none (size_at (others c.args.count (turned c.args.r c.args.template.now) c.args.to c.args.care c.args.want)));
  small = omega arith;
}

pub image_lines-lines-requires-clause-target : goal.image_lines-lines-requires-clause-target
image_lines-lines-requires-clause-target c =
    turned_target c.args.r _ c.args.template.now c.turned_gate-gate.result c.requires.template (omega arith) c.turned_gate-gate.ensures

pub loop-j-preserved : goal.loop-j-preserved
loop-j-preserved c =
    let gates : List Shape = others c.args.count (turned c.args.r c.args.template.now) c.args.to c.args.care c.args.want in
    let small : count_ones c.image_lines-lines.result ≤ 64 = size_small c.image_lines-lines.result (omega arith) in
    record {
      value = ap (λ n. c.loop-j.sum + n) c.from-sum.ensures ∙ other_sum_more gates c.loop-j.sum c.loop-j.j c.image_lines-lines.result c.loop-j.invariant.value
          (other_lines c.args.count c.loop-j.j c.args.r c.args.template.now c.args.to c.args.care c.args.want c.image_lines-lines.result c.turned_gate-gate.result (omega arith) c.turned_gate-gate.ensures c.image_lines-lines.ensures);
      small = let old = c.loop-j.invariant.small in omega (arith, small, c.from-sum.ensures, old);
    }

pub returns : goal.returns
returns c =
    let gates : List Shape = others c.args.count (turned c.args.r c.args.template.now) c.args.to c.args.care c.args.want in
    let len : length gates ≡ length c.args.template.now - c.args.count = length-turned_others c.args.count c.args.r c.args.template.now c.args.to c.args.care c.args.want in
    let s : c.loop-j.j ≡ length gates = omega (arith, len) in
    c.loop-j.invariant.value ∙ ap (sum_below (size_at gates)) s ∙ sym (incidences-sum gates)
