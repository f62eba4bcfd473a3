use Rattle.std.proofs.Common.{◌≡◌}
use Rattle.rv_templ.specs.inside.Pruning.{varied}
use Rattle.rv_templ.proofs.varied.varied.Given as goal

abbrev pub invariant-loop-j : goal.invariant-loop-j
invariant-loop-j l = l.set ≡ varied l.gates l.j
