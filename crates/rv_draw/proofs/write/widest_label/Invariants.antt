use Rattle.std.proofs.Common.{◌≡◌, take}
use Rattle.rv_draw.specs.Drawing.{widest}
use Rattle.rv_draw.proofs.write.widest_label.Given as goal

abbrev pub invariant-loop-line : goal.invariant-loop-line
invariant-loop-line l = l.widest ≡ widest (take l.line l.circuit.input_labels)
