use Rattle.std.proofs.Common.{◌≡◌}
use Rattle.rv_mct.proofs.inside.Overlay.{overlaid, marked_from}
use Rattle.rv_mct.proofs.widening.mark_lines.Given as goal

abbrev pub invariant-loop-line : goal.invariant-loop-line
invariant-loop-line l = l.wide ≡ overlaid l.circuit l.extra l.line

abbrev pub invariant-loop-line-2 : goal.invariant-loop-line-2
invariant-loop-line-2 l = l.wide ≡ marked_from l.circuit l.extra l.line
