use Rattle.std.proofs.Common.{◌≡◌, ℕ, ◌<◌, ◌≤◌, get_or}
use Rattle.rv_route.specs.inside.Standing.{shifted}
use Rattle.rv_route.proofs.places.shift.Given as goal

abbrev pub invariant-loop-line : goal.invariant-loop-line
invariant-loop-line l = record {
  done : (k : ℕ) → k < l.line → get_or l.places k 0 ≡ shifted l.from l.to (get_or l.fn.places k 0);
  rest : (k : ℕ) → l.line ≤ k → get_or l.places k 0 ≡ get_or l.fn.places k 0;
}
