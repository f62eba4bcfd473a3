use Rattle.rv_compute.proofs.inside.AllAsked.{HaveWords}
use Rattle.rv_compute.proofs.sum.words_of.Given as goal

abbrev pub invariant-loop-set : goal.invariant-loop-set
invariant-loop-set l = HaveWords l.node l.count l.set l.products.items
