use Rattle.std.proofs.Common.{length, ◌-◌, ◌≡◌, ◌≤◌, take}
use Rattle.rv_io.specs.Sink.{grown, flushed_after}
use Rattle.rv_io.proofs.calls.put_all.Given as goal

-- the prefix up to `at` is sent and not flushed, and no fault is counted
abbrev pub invariant-loop-at : goal.invariant-loop-at
invariant-loop-at g l = let old = g.O.Sink.view l.initial.sink in let now = g.O.Sink.view l.sink in record {
  within : l.at ≤ length l.bytes;
  sent : now.sent ≡ grown old.sent (take l.at l.bytes);
  flushed : now.is_flushed ≡ flushed_after old.is_flushed (take l.at l.bytes);
  uncounted : now.faults ≡ old.faults;
}

abbrev pub decreases-loop-at : goal.decreases-loop-at
decreases-loop-at g l = length l.bytes - l.at
