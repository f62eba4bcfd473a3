use Rattle.std.proofs.Common.{◌∙◌, ◌≤◌, ℕ, length, ap, arith, max}
use Rattle.std.proofs.lemmas.List.{take_all}
use Rattle.rv_picture.specs.Svg.{widest, width}
use Rattle.rv_picture.proofs.SvgTexts.{widest_more}
use Rattle.rv_picture.proofs.svg.widest_label.Goals as goal

pub loop-line-preserved : goal.loop-line-preserved
loop-line-preserved c =
    let lines = c.args.lines.now in
    let line = c.loop-line.line in
    record {
      inputs = c.wider-inputs.ensures.value ∙ ap (λ (m : ℕ). max m (width c.input_label.result.now)) c.loop-line.invariant.inputs
          ∙ widest_more lines.input_labels line c.input_label.result.now c.input_label.ensures;
      outputs = c.wider-outputs.ensures.value ∙ ap (λ (m : ℕ). max m (width c.output_label.result.now)) c.loop-line.invariant.outputs
          ∙ widest_more lines.output_labels line c.output_label.result.now c.output_label.ensures;
      few_inputs = c.wider-inputs.ensures.few;
      few_outputs = c.wider-outputs.ensures.few;
    }

pub returns-clause-value : goal.returns-clause-value
returns-clause-value c =
    let lines = c.args.lines.now in
    let valid = c.line_count-line-end.ensures.valid in
    let count_in = valid.input_labels.count in
    let count_out = valid.output_labels.count in
    let all_in : length lines.input_labels ≤ c.loop-line.line = omega arith in
    let all_out : length lines.output_labels ≤ c.loop-line.line = omega arith in
    c.max.ensures ∙ ap (λ (m : ℕ). max m c.loop-line.outputs) (c.loop-line.invariant.inputs ∙ ap widest (take_all c.loop-line.line lines.input_labels all_in))
    ∙ ap (λ (m : ℕ). max (widest lines.input_labels) m) (c.loop-line.invariant.outputs ∙ ap widest (take_all c.loop-line.line lines.output_labels all_out))
