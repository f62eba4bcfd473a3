use Rattle.std.proofs.Common.{◌<◌, ℕ}
use Rattle.rv_gate.specs.Word.{has, word_of}
use Rattle.rv_pla.specs.FreeEntries.{IsAllowed}
use Rattle.rv_cube.specs.Esop.{esop_value}
use Rattle.rv_exorlink.proofs.found.is_right.Given as goal

abbrev pub invariant-loop-number : goal.invariant-loop-number
invariant-loop-number l =
    (x : ℕ) → x < l.number
    → IsAllowed l.pla (word_of l.pla.inputs x) (has (esop_value l.list.cubes (word_of l.pla.inputs x)))
