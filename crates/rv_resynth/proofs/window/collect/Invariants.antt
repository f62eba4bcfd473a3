use Rattle.std.proofs.Common.{ℕ, take}
use Rattle.rv_resynth.specs.inside.Windows.{AreGates, Splits}
use Rattle.rv_resynth.proofs.window.collect.Given as goal

abbrev pub invariant-loop-place : goal.invariant-loop-place
invariant-loop-place l =
    (n : ℕ) → AreGates n l.gates → Splits n (take l.place l.gates) l.window.gates.items l.window.passed.items
