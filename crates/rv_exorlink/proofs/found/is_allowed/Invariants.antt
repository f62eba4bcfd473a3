use Rattle.std.proofs.Common.{◌<◌, ℕ, IsTrue}
use Rattle.rv_gate.specs.Word.{has, word_of}
use Rattle.rv_pla.specs.Pla.{entry}
use Rattle.rv_pla.specs.FreeEntries.{allows}
use Rattle.rv_exorlink.proofs.found.is_allowed.Given as goal

abbrev pub invariant-loop-output : goal.invariant-loop-output
invariant-loop-output l =
    (k : ℕ) → k < l.output → IsTrue (allows (entry l.pla (word_of l.pla.inputs l.number) k) (has l.outs k))
