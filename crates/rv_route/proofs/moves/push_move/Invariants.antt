use Rattle.std.proofs.Common.{◌≡◌, ◌-◌, ◌≤◌, ◌++◌, map}
use Rattle.rv_route.specs.Moves.{neighbours, swaps_up, swaps_down}
use Rattle.rv_route.proofs.moves.push_move.Given as goal

abbrev pub invariant-loop-p : goal.invariant-loop-p
invariant-loop-p l = record {
  made : l.gates.items ≡ l.fn.gates.items ++ map neighbours (swaps_up l.from l.p);
  within : l.p - l.from ≤ l.to - l.from;
}

abbrev pub invariant-loop-p-2 : goal.invariant-loop-p-2
invariant-loop-p-2 l = record {
  made : l.gates.items ≡ l.fn.gates.items ++ map neighbours (swaps_up l.from l.to ++ swaps_down l.from l.p);
  within : l.from - l.p ≤ l.from - l.to;
}
