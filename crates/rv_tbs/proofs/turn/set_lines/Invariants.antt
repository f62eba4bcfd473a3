use Rattle.std.proofs.Common.{◌++◌, length}
use Rattle.rv_gate.specs.Gate.{run}
use Rattle.rv_tbs.specs.Synthesis.{is_set_due, set_controls, due_flips}
use Rattle.rv_tbs.proofs.inside.Loops.{Row}
use Rattle.rv_tbs.proofs.turn.set_lines.Given as goal

abbrev pub invariant-loop-line : goal.invariant-loop-line
invariant-loop-line l =
    Row (is_set_due l.goal) set_controls (length l.goal) l.line l.word l.gates.items
    (l.initial.gates.items ++ due_flips (is_set_due l.goal) set_controls 0 (length l.goal) l.initial.word)
    (run (due_flips (is_set_due l.goal) set_controls 0 (length l.goal) l.initial.word) l.initial.word)
