use Rattle.std.proofs.Common.{◌-◌, length}
use Rattle.rv_gate.specs.inside.CircuitView.{labels_in}
use Rattle.rv_real.proofs.LabelTokens.{IsReadingLabels}
use Rattle.rv_real.proofs.labels.read_labels.Given as goal

abbrev pub invariant-loop-found : goal.invariant-loop-found
invariant-loop-found l = IsReadingLabels l.line l.from l.at (labels_in l.labels)

abbrev pub decreases-loop-found : goal.decreases-loop-found
decreases-loop-found l = length l.line - l.at
