use Rattle.std.proofs.Common.{◌≡◌, ◌≤◌, ◌+◌, ◌*◌, drop}
use Rattle.rv_links.specs.Nodes.{incidences}
use Rattle.rv_links.proofs.chains.incidences.Given as goal

abbrev pub invariant-loop-gate : goal.invariant-loop-gate
invariant-loop-gate l = (l.sum + incidences (drop l.gate-index l.gates) ≡ incidences l.gates) × (l.sum ≤ 64 * l.gate-index)
