use Rattle.std.proofs.Common.{◌-◌, length}
use Rattle.rv_compute.specs.inside.Own.{OwnBack}
use Rattle.rv_compute.proofs.own.take_back.Given as goal

abbrev pub invariant-loop-i : goal.invariant-loop-i
invariant-loop-i l = OwnBack l.logic (length l.logic.nodes - l.i) l.gates.items
