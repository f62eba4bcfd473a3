use Rattle.std.proofs.Common.{◌≡◌, length, drop}
use Rattle.rv_gate.specs.Gate.{run}
use Rattle.rv_gate.proofs.circuit.Circuit.run.Given as goal

abbrev pub invariant-loop-gate : goal.invariant-loop-gate
invariant-loop-gate l =
    (length l.word ≡ length l.self.names) × (run (drop l.gate-index l.self.gates) l.word ≡ run l.self.gates l.initial.word)
