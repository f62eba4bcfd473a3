use Rattle.std.proofs.Common.{length, drop, ◌-◌, ◌≡◌, ◌≤◌, ◌++◌, List}
use Rattle.std.specs.List.{flat_map}
use Rattle.rv_io.specs.Writer.{Adds}
use Rattle.rv_net.specs.declared.op.Op.{Op}
use Rattle.rv_qasm.specs.Text.{statement}
use Rattle.rv_expand.specs.Toffoli.{toffoli_ops}
use Rattle.rv_expand.proofs.toffoli.put_toffolis.Given as goal

abbrev pub invariant-loop-place : goal.invariant-loop-place
invariant-loop-place g l =
    (l.place ≤ length l.gates)
    × (ops : List Op) × (toffoli_ops l.gates ≡ ops ++ toffoli_ops (drop l.place l.gates))
    × Adds l.initial.writer (g.O.Sink.view l.initial.sink) (flat_map statement ops) l.writer (g.O.Sink.view l.sink)

abbrev pub decreases-loop-place : goal.decreases-loop-place
decreases-loop-place g l = length l.gates - l.place
