use Rattle.std.proofs.Common.{◌≡◌, ◌<◌, ℕ}
use Rattle.rv_gate.specs.Gate.{act_on_number}
use Rattle.rv_gate.specs.Word.{word_of}
use Rattle.rv_cube.specs.Esop.{esop_value}
use Rattle.rv_esop.specs.inside.Bends.{bend}
use Rattle.rv_esop.proofs.bends.gives_bent.Given as goal

abbrev pub invariant-loop-number : goal.invariant-loop-number
invariant-loop-number l =
    (x : ℕ) → x < l.number
    → esop_value l.new.cubes (word_of l.old.inputs (act_on_number (bend l.from l.to) l.old.inputs x))
    ≡ esop_value l.old.cubes (word_of l.old.inputs x)
