use Rattle.std.proofs.Common.{ℕ, ◌<◌, ◌≡◌, true}
use Rattle.rv_gate.specs.Word.{bit_of, word_of}
use Rattle.rv_many.specs.Column.{column}
use Rattle.rv_pla.specs.FreeEntries.{allows}
use Rattle.rv_pla.specs.Pla.{entry}
use Rattle.rv_compare.proofs.table.is_allowed.Given as goal

abbrev pub invariant-loop-output : goal.invariant-loop-output
invariant-loop-output l =
    (k : ℕ) → k < l.output → allows (entry l.pla (word_of l.pla.inputs l.input) k) (bit_of (column l.rows l.place) k) ≡ true
