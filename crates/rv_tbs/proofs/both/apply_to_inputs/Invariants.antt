use Rattle.std.proofs.Common.{◌≡◌, drop}
use Rattle.rv_tbs.specs.Synthesis.{applied_in}
use Rattle.rv_tbs.proofs.both.apply_to_inputs.Given as goal

abbrev pub invariant-loop-gate : goal.invariant-loop-gate
invariant-loop-gate l =
    (l.table.lines ≡ l.initial.table.lines)
    × (applied_in (drop l.gate-index l.gates) l.table.lines l.table.images ≡ applied_in l.gates l.table.lines l.initial.table.images)
