use Rattle.std.proofs.Common.{◌≡◌, ℕ, ◌<◌, None, drop, replicate, IfSome}
use Rattle.rv_blif.specs.Placing.{signal_of, with_inputs}
use Rattle.rv_blif.proofs.placing.input_signals.Given as goal

abbrev pub invariant-loop-i : goal.invariant-loop-i
invariant-loop-i l = record {
  value : with_inputs l.i l.signals.items (drop l.i l.inputs) ≡ with_inputs 0 (replicate l.names None) l.inputs;
  below : (name : ℕ) → IfSome (signal_of l.signals.items name) (λ signal. signal < l.i);
}
