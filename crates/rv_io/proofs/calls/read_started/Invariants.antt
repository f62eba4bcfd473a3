use Rattle.std.proofs.Common.{◌≡◌, ◌≤◌, ◌+◌, ◌-◌, true, length, take}
use Rattle.rv_io.specs.Files.{Keeps, SameOpened}
use Rattle.rv_io.proofs.calls.read_started.Given as goal

-- No call failed, and so many bytes were read as the place says. Where contents are told, they are the content's up to there.
abbrev pub invariant-loop-room : goal.invariant-loop-room
invariant-loop-room g l = let old = g.F.Files.view l.fn.files in let now = g.F.Files.view l.files in record {
  keeps : Keeps old now;
  same : SameOpened old now;
  uncounted : now.faults ≡ old.faults;
  most : l.most ≡ l.limit;
  limited : length l.bytes.items ≤ l.most + 1;
  place : now.place ≡ length l.bytes.items;
  so_far : old.tells ≡ true → (now.place ≤ length old.content) × (l.bytes.items ≡ take now.place old.content);
}

abbrev pub decreases-loop-room : goal.decreases-loop-room
decreases-loop-room g l = l.most + 1 - length l.bytes.items
