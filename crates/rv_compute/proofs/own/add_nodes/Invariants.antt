use Rattle.rv_compute.specs.inside.Own.{Own, word_bound}
use Rattle.rv_compute.proofs.own.add_nodes.Given as goal

abbrev pub invariant-loop-k : goal.invariant-loop-k
invariant-loop-k l = Own l.logic 0 l.k (word_bound l.logic l.k) l.gates.items
