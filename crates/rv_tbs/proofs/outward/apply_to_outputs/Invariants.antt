use Rattle.std.proofs.Common.{◌≡◌, drop, map}
use Rattle.rv_gate.specs.Gate.{run_on_number}
use Rattle.rv_tbs.proofs.outward.apply_to_outputs.Given as goal

abbrev pub invariant-loop-gate : goal.invariant-loop-gate
invariant-loop-gate l =
    (l.table.lines ≡ l.initial.table.lines)
    × (map (run_on_number (drop l.gate-index l.gates) l.table.lines) l.table.images ≡ map (run_on_number l.gates l.table.lines) l.initial.table.images)
