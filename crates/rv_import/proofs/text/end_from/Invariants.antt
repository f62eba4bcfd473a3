use Rattle.std.proofs.Common.{◌≡◌, ◌+◌, drop}
use Rattle.std.specs.List.{position_or_len}
use Rattle.rv_import.specs.Reading.{is_end}
use Rattle.rv_import.specs.Statement.{bytes_of}
use Rattle.rv_import.proofs.text.end_from.Given as goal

abbrev pub invariant-loop-index : goal.invariant-loop-index
invariant-loop-index l =
    l.from + position_or_len is_end (drop l.from (bytes_of l.tokens)) ≡ l.index + position_or_len is_end (drop l.index (bytes_of l.tokens))
