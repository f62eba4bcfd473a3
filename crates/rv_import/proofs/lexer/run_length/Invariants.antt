use Rattle.std.proofs.Common.{◌≡◌, ◌+◌, drop}
use Rattle.std.specs.List.{prefix_len}
use Rattle.rv_import.specs.Lexer.{is_in}
use Rattle.rv_import.proofs.lexer.run_length.Given as goal

abbrev pub invariant-loop-index : goal.invariant-loop-index
invariant-loop-index l = prefix_len (is_in l.run) l.bytes ≡ l.index + prefix_len (is_in l.run) (drop l.index l.bytes)
