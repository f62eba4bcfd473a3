use Rattle.std.proofs.Common.{◌≡◌, ◌+◌, ◌≤◌, drop}
use Rattle.rv_net.specs.Amplitude.{count_h}
use Rattle.rv_sums.proofs.same.count_h.Given as goal

abbrev pub invariant-loop-place : goal.invariant-loop-place
invariant-loop-place l = record {
  few : l.count ≤ l.place;
  left : l.count + count_h (drop l.place l.ops) ≡ count_h l.ops;
}
