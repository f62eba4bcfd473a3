use Rattle.std.proofs.Common.{◌∙◌, ◌≤◌, length, ap, arith}
use Rattle.std.proofs.lemmas.List.{take_all}
use Rattle.rv_draw.specs.Drawing.{widest}
use Rattle.rv_draw.proofs.Texts.{widest-more}
use Rattle.rv_draw.proofs.write.widest_label.Goals as goal

pub loop-line-preserved : goal.loop-line-preserved
loop-line-preserved c =
    let more = widest-more c.args.circuit.now.input_labels c.loop-line.line c.input_label.result.now c.input_label.ensures in
    omega (arith, more)

pub returns : goal.returns
returns c =
    let labels = c.args.circuit.now.input_labels in
    let count = c.line_count-line-end.ensures.valid.input_labels.count in
    let all : length labels ≤ c.loop-line.line = omega arith in
    c.loop-line.invariant ∙ ap widest (take_all c.loop-line.line labels all)
