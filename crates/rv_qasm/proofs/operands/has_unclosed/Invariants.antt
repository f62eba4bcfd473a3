use Rattle.std.proofs.Common.{◌≡◌, false, take}
use Rattle.std.specs.List.{list_any}
use Rattle.rv_qasm.specs.Tokens.{is_open_string}
use Rattle.rv_qasm.proofs.operands.has_unclosed.Given as goal

abbrev pub invariant-loop-index : goal.invariant-loop-index
invariant-loop-index l = list_any is_open_string (take l.index l.tokens) ≡ false
