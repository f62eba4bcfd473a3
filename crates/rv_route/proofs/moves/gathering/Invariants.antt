use Rattle.std.proofs.Common.{◌≡◌, ℕ, ◌+◌, ◌-◌, ◌++◌, length, take, drop}
use Rattle.rv_route.specs.Moves.{moves_up, moves_down, gathering}
use Rattle.rv_route.specs.inside.Standing.{AreAscending, AreMoves, swaps_by}
use Rattle.rv_route.proofs.moves.gathering.Given as goal

abbrev pub invariant-loop-j : goal.invariant-loop-j
invariant-loop-j l = record {
  swaps : swaps_by l.moves.items ≡ moves_up (drop l.j (take l.middle l.positions)) l.centre;
  within : (n : ℕ) → AreAscending 0 n l.positions → AreMoves n l.moves.items;
  len : length l.moves.items + l.j ≡ l.middle;
}

abbrev pub invariant-loop-j-2 : goal.invariant-loop-j-2
invariant-loop-j-2 l = record {
  swaps : swaps_by l.moves.items ++ moves_down (drop l.j l.positions) (l.centre + (l.j - l.middle - 1)) ≡ gathering l.positions;
  within : (n : ℕ) → AreAscending 0 n l.positions → AreMoves n l.moves.items;
  len : length l.moves.items + 1 ≡ l.j;
}
