use Rattle.std.proofs.Common.{◌≢◌, ℕ, ◌^◌, ◌<◌, ◌≤◌}
use Rattle.rv_perm.proofs.places.lines_of.Given as goal

abbrev pub invariant-loop-lines : goal.invariant-loop-lines
invariant-loop-lines l = (n : ℕ) → 1 ≤ n → n < l.lines → l.count ≢ 2 ^ n
