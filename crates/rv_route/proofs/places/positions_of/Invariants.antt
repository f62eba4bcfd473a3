use Rattle.std.proofs.Common.{◌≡◌, ℕ, ◌<◌, true, List, length}
use Rattle.rv_gate.specs.Word.{has}
use Rattle.rv_route.specs.inside.Standing.{Stands}
use Rattle.rv_route.proofs.inside.Steps.{Placing}
use Rattle.rv_route.proofs.places.positions_of.Given as goal

abbrev pub invariant-loop-left : goal.invariant-loop-left
invariant-loop-left l = record {
  among : (line : ℕ) → line < 64 → has l.left line ≡ true → has l.set line ≡ true;
  placing : (row : List ℕ) → Stands row l.places → Placing row (length l.places) l.set l.left l.positions;
}

abbrev pub decreases-loop-left : goal.decreases-loop-left
decreases-loop-left l = l.left
