use Rattle.std.proofs.Common.{◌≡◌, ◌≤◌}
use Rattle.rv_gate.specs.declared.word.TheConstants.{MOST_LINES}
use Rattle.rv_templ.specs.Pairs.{lone}
use Rattle.rv_templ.proofs.joining.lone.Given as goal

abbrev pub invariant-loop-line : goal.invariant-loop-line
invariant-loop-line l = (l.line ≤ MOST_LINES) × (lone l.set l.line ≡ lone l.set MOST_LINES)

abbrev pub decreases-loop-line : goal.decreases-loop-line
decreases-loop-line l = l.line
