use Rattle.std.proofs.Common.{◌≡◌}
use Rattle.rv_templ.specs.Images.{turned}
use Rattle.rv_templ.specs.inside.Pruning.{varied}
use Rattle.rv_templ.proofs.varied.varied_turned.Given as goal

abbrev pub invariant-loop-j : goal.invariant-loop-j
invariant-loop-j l = l.set ≡ varied (turned l.r l.gates) l.j
