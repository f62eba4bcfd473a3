use Rattle.std.proofs.Common.{◌≡◌, ℕ, ◌<◌, length, drop}
use Rattle.rv_gate.specs.Gate.{run}
use Rattle.rv_many.specs.Column.{column}
use Rattle.rv_many.proofs.run_many.Given as goal

abbrev pub invariant-loop-gate : goal.invariant-loop-gate
invariant-loop-gate l =
    (length l.rows ≡ length l.initial.rows)
    × ((j : ℕ) → j < 256 → run (drop l.gate-index l.gates) (column l.rows j) ≡ run l.gates (column l.initial.rows j))
