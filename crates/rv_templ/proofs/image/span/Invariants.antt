use Rattle.std.proofs.Common.{◌≡◌}
use Rattle.rv_templ.specs.Gates.{gate_in}
use Rattle.rv_gate.specs.Gate.{touched}
use Rattle.rv_templ.specs.Folds.{union_below}
use Rattle.rv_templ.proofs.image.span.Given as goal

abbrev pub invariant-loop-j : goal.invariant-loop-j
invariant-loop-j l = l.set ≡ union_below (λ j. touched (gate_in l.gates j)) l.j
