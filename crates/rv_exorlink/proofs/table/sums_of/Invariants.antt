use Rattle.std.proofs.Common.{◌≡◌, ◌<◌, ℕ, get_or, length}
use Rattle.std.specs.Prelude.{bit_xor}
use Rattle.rv_exorlink.proofs.table.sums_of.Given as goal

abbrev pub invariant-loop-i : goal.invariant-loop-i
invariant-loop-i l = record {
  as_many : length l.sums.items ≡ l.i;
  value : (k : ℕ) → k < l.i → get_or l.sums.items k 0 ≡ bit_xor (get_or l.xs k 0) (get_or l.ys k 0);
}
