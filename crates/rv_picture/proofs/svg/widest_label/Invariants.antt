use Rattle.std.proofs.Common.{◌≡◌, ◌<◌, ◌^◌, take}
use Rattle.rv_picture.specs.Svg.{widest}
use Rattle.rv_picture.proofs.svg.widest_label.Given as goal

abbrev pub invariant-loop-line : goal.invariant-loop-line
invariant-loop-line l = record {
  inputs : l.inputs ≡ widest (take l.line l.lines.input_labels);
  outputs : l.outputs ≡ widest (take l.line l.lines.output_labels);
  few_inputs : l.inputs < 2 ^ 70;
  few_outputs : l.outputs < 2 ^ 70;
}
