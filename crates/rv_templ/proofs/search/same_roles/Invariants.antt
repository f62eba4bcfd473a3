use Rattle.std.proofs.Common.{◌≡◌, ℕ, ◌<◌, true}
use Rattle.rv_templ.specs.Gates.{gate_in}
use Rattle.rv_templ.specs.Images.{turned}
use Rattle.rv_templ.specs.inside.Pruning.{same_role}
use Rattle.rv_templ.proofs.search.same_roles.Given as goal

abbrev pub invariant-loop-j : goal.invariant-loop-j
invariant-loop-j l = (k : ℕ) → k < l.j → same_role (gate_in l.window k) l.v (gate_in (turned l.r l.template) k) l.i ≡ true
