use Rattle.std.proofs.Common.{[], ◌∷◌, take}
use Rattle.std.specs.List.{flat_map}
use Rattle.rv_io.specs.Writer.{Adds}
use Rattle.rv_text.specs.Spelled.{spelled}
use Rattle.rv_real.specs.Text.{gate_words}
use Rattle.rv_real.proofs.write.put_gates.Given as goal

abbrev pub invariant-loop-gate : goal.invariant-loop-gate
invariant-loop-gate g l = Adds l.initial.writer (g.O.Sink.view l.initial.sink) (flat_map (λ gate. spelled (gate_words l.circuit.names gate ∷ [])) (take l.gate-index l.circuit.gates)) l.writer (g.O.Sink.view l.sink)
