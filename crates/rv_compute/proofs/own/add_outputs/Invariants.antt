use Rattle.std.proofs.Common.{◌+◌, length}
use Rattle.rv_compute.specs.inside.Own.{Own, word_bound}
use Rattle.rv_compute.proofs.own.add_outputs.Given as goal

abbrev pub invariant-loop-p : goal.invariant-loop-p
invariant-loop-p l =
    Own l.logic l.p (length l.logic.nodes) (word_bound l.logic (length l.logic.nodes) + l.p) l.gates.items
