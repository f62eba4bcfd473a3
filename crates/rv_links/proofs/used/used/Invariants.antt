use Rattle.std.proofs.Common.{ℕ, ◌<◌}
use Rattle.rv_links.specs.inside.Chains.{gate_at}
use Rattle.rv_links.specs.inside.Used.{Uses}
use Rattle.rv_links.proofs.used.used.Given as goal

abbrev pub invariant-loop-gate : goal.invariant-loop-gate
invariant-loop-gate l = (id : ℕ) → id < l.gate-index → Uses l.read l.changed (gate_at l.gates id)
