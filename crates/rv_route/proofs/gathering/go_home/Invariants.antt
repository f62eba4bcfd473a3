use Rattle.std.proofs.Common.{◌≡◌, ℕ, List, length}
use Rattle.rv_route.specs.inside.Standing.{AreMoves, Stands}
use Rattle.rv_route.proofs.inside.Steps.{Going}
use Rattle.rv_route.proofs.gathering.go_home.Given as goal

abbrev pub invariant-loop-line : goal.invariant-loop-line
invariant-loop-line l = record {
  going : (row : List ℕ) → Stands row l.fn.places → Going (length l.fn.places) l.line row l.places l.moves.items;
  within : AreMoves 64 l.moves.items;
  len : length l.moves.items ≡ l.line;
}
