use Rattle.std.proofs.Common.{◌≡◌, ℕ, ◌<◌, ◌≤◌, get_or}
use Rattle.std.specs.Prelude.{bit_xor}
use Rattle.rv_cube.proofs.reed_muller.xor_each.Given as goal

abbrev pub invariant-loop-i : goal.invariant-loop-i
invariant-loop-i l = record {
  done : (k : ℕ) → k < l.i → get_or l.high k 0 ≡ bit_xor (get_or l.low k 0) (get_or l.initial.high k 0);
  rest : (k : ℕ) → l.i ≤ k → get_or l.high k 0 ≡ get_or l.initial.high k 0;
}
