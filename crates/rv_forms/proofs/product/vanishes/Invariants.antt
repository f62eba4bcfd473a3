use Rattle.rv_forms.proofs.product.vanishes.Given as goal

abbrev pub invariant-loop-j : goal.invariant-loop-j
invariant-loop-j l = Unit {0}

abbrev pub invariant-loop-k : goal.invariant-loop-k
invariant-loop-k l = Unit {0}
