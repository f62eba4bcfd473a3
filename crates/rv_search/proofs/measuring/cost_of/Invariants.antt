use Rattle.std.proofs.Common.{◌≡◌, ◌≤◌, ◌*◌, ◌^◌, take}
use Rattle.rv_search.specs.Measure.{cost_of}
use Rattle.rv_search.proofs.measuring.cost_of.Given as goal

abbrev pub invariant-loop-gate : goal.invariant-loop-gate
invariant-loop-gate l =
    record { value : l.cost ≡ cost_of (take l.gate-index l.gates); few : l.cost ≤ 2 ^ 67 * l.gate-index }
