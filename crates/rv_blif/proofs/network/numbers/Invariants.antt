use Rattle.std.proofs.Common.{◌≡◌, length}
use Rattle.std.specs.List.{range_with_len}
use Rattle.rv_blif.proofs.network.numbers.Given as goal

abbrev pub invariant-loop-k : goal.invariant-loop-k
invariant-loop-k l = record {
  value : l.numbers.items ≡ range_with_len 0 l.k;
  len : length l.numbers.items ≡ l.k;
}
