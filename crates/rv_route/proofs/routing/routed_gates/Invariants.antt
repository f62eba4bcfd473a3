use Rattle.std.proofs.Common.{◌≡◌, ℕ, ◌++◌, List, length, drop}
use Rattle.rv_route.specs.Placement.{home}
use Rattle.rv_route.specs.Routed.{routed_from}
use Rattle.rv_route.specs.inside.Standing.{Stands}
use Rattle.rv_route.proofs.routing.routed_gates.Given as goal

abbrev pub invariant-loop-gate : goal.invariant-loop-gate
invariant-loop-gate l = record {
  row : List ℕ;
  so_far : l.made.items ++ routed_from row (drop l.gate-index l.gates) ≡ routed_from (home l.lines) l.gates;
  stands : Stands row l.places;
  len : length l.places ≡ l.lines;
}
