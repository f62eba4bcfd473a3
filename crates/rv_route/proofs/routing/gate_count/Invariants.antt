use Rattle.std.proofs.Common.{◌≡◌, ℕ, ◌+◌, ◌*◌, ◌≤◌, List, length, drop}
use Rattle.rv_route.specs.Placement.{home}
use Rattle.rv_route.specs.Routed.{routed_from}
use Rattle.rv_route.specs.inside.Standing.{Stands}
use Rattle.rv_route.proofs.routing.gate_count.Given as goal

abbrev pub invariant-loop-gate : goal.invariant-loop-gate
invariant-loop-gate l = record {
  row : List ℕ;
  so_far : l.count + length (routed_from row (drop l.gate-index l.gates)) ≡ length (routed_from (home l.lines) l.gates);
  stands : Stands row l.places;
  len : length l.places ≡ l.lines;
  few : l.count ≤ 2017 * l.gate-index;
}
