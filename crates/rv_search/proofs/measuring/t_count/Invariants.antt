use Rattle.std.proofs.Common.{◌≡◌, ◌≤◌, ◌*◌, ◌^◌, take}
use Rattle.std.specs.List.{sum_by}
use Rattle.rv_search.specs.Measure.{gate_toffolis}
use Rattle.rv_search.proofs.measuring.t_count.Given as goal

abbrev pub invariant-loop-gate : goal.invariant-loop-gate
invariant-loop-gate l =
    record {
      value : l.count ≡ sum_by (gate_toffolis l.wide)
          (take l.gate-index l.gates);
      few : l.count ≤ 2 ^ 12 * l.gate-index;
    }
