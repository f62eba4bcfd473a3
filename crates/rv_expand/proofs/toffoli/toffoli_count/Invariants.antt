use Rattle.std.proofs.Common.{length, drop, ◌-◌, ◌≡◌, ◌*◌, ◌≤◌, ◌+◌}
use Rattle.rv_expand.specs.Toffoli.{toffoli_ops}
use Rattle.rv_expand.proofs.toffoli.toffoli_count.Given as goal

abbrev pub invariant-loop-place : goal.invariant-loop-place
invariant-loop-place l = record {
  within : l.place ≤ length l.gates;
  so_far : l.count + length (toffoli_ops (drop l.place l.gates)) ≡ length (toffoli_ops l.gates);
  few : l.count ≤ 5 * l.place;
}

abbrev pub decreases-loop-place : goal.decreases-loop-place
decreases-loop-place l = length l.gates - l.place
