use Rattle.std.proofs.Common.{◌≡◌, true, ℕ}
use Rattle.rv_gate.specs.Word.{has, word_of}
use Rattle.rv_pla.specs.Pla.{entry}
use Rattle.rv_pla.specs.FreeEntries.{is_dont_care}
use Rattle.rv_exorlink.proofs.free.free_at.Given as goal

abbrev pub invariant-loop-output : goal.invariant-loop-output
invariant-loop-output l =
    (output : ℕ) → has l.outs output ≡ true → is_dont_care (entry l.pla (word_of l.pla.inputs l.number) output) ≡ true
