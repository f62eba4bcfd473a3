use Rattle.std.proofs.Common.{◌++◌, length}
use Rattle.rv_gate.specs.Gate.{run}
use Rattle.rv_tbs.specs.Synthesis.{is_clear_due, clear_controls, due_flips}
use Rattle.rv_tbs.proofs.inside.Loops.{Row}
use Rattle.rv_tbs.proofs.turn.clear_lines.Given as goal

abbrev pub invariant-loop-line : goal.invariant-loop-line
invariant-loop-line l =
    Row (is_clear_due l.goal) (clear_controls l.goal) (length l.goal) l.line l.word l.gates.items
    (l.initial.gates.items ++ due_flips (is_clear_due l.goal) (clear_controls l.goal) 0 (length l.goal) l.initial.word)
    (run (due_flips (is_clear_due l.goal) (clear_controls l.goal) 0 (length l.goal) l.initial.word) l.initial.word)
