use Rattle.std.proofs.Common.{◌≡◌, ℕ, ◌<◌, length, get_or}
use Rattle.rv_route.proofs.places.home.Given as goal

abbrev pub invariant-loop-line : goal.invariant-loop-line
invariant-loop-line l = record {
  len : length l.places ≡ 64;
  so_far : (k : ℕ) → k < l.line → get_or l.places k 0 ≡ k;
}
