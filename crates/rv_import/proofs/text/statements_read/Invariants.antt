use Rattle.std.proofs.Common.{◌≡◌, ◌≤◌, ◌+◌, ◌-◌, drop, length}
use Rattle.std.specs.List.{position_or_len, slice_split}
use Rattle.rv_import.specs.Reading.{is_end, parts_read, tokens_read}
use Rattle.rv_import.specs.Statement.{bytes_of}
use Rattle.rv_import.proofs.text.statements_read.Given as goal

abbrev pub invariant-loop-end : goal.invariant-loop-end
invariant-loop-end l =
    (tokens_read (bytes_of l.tokens) ≡ parts_read l.number l.so_far (slice_split is_end (drop l.start (bytes_of l.tokens))))
    × (l.end ≡ l.start + position_or_len is_end (drop l.start (bytes_of l.tokens)))
    × (l.end ≤ length l.tokens)
    × (l.number ≤ l.start + 1)

abbrev pub decreases-loop-end : goal.decreases-loop-end
decreases-loop-end l = length l.tokens + 1 - l.start
