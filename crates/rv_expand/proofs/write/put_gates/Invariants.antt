use Rattle.std.proofs.Common.{take}
use Rattle.std.specs.List.{flat_map}
use Rattle.rv_io.specs.Writer.{Adds}
use Rattle.rv_net.specs.Network.{network_of}
use Rattle.rv_qasm.specs.Text.{statement}
use Rattle.rv_expand.proofs.write.put_gates.Given as goal

abbrev pub invariant-loop-gate : goal.invariant-loop-gate
invariant-loop-gate g l =
    Adds l.initial.writer (g.O.Sink.view l.initial.sink) (flat_map statement (network_of (take l.gate-index l.gates))) l.writer (g.O.Sink.view l.sink)
