use Rattle.std.proofs.Common.{◌≡◌, ℕ, ◌<◌, [], length, drop, All, IfSome}
use Rattle.rv_blif.specs.Placing.{outputs_by, signal_of}
use Rattle.rv_blif.proofs.network.outputs_by.Given as goal

abbrev pub invariant-loop-port : goal.invariant-loop-port
invariant-loop-port l = record {
  gives : outputs_by l.names l.signals l.outputs.items (drop l.port-index l.ports) ≡ outputs_by l.names l.signals [] l.ports;
  count : length l.outputs.items ≡ l.port-index;
  below : (most : ℕ) → ((name : ℕ) → IfSome (signal_of l.signals name) (λ signal. signal < most))
      → All (λ output. output.signal < most) l.outputs.items;
}
