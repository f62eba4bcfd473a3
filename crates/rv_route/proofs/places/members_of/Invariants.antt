use Rattle.std.proofs.Common.{◌≡◌, ◌≤◌, length}
use Rattle.std.specs.List.{filter, range_with_len}
use Rattle.rv_gate.specs.Word.{has}
use Rattle.rv_route.proofs.places.members_of.Given as goal

abbrev pub invariant-loop-line : goal.invariant-loop-line
invariant-loop-line l = record {
  so_far : l.members.items ≡ filter (has l.set) (range_with_len 0 l.line);
  few : length l.members.items ≤ l.line;
}
