use Rattle.std.proofs.Common.{◌≡◌, ℕ, map, take}
use Rattle.rv_gate.specs.Word.{bit_of}
use Rattle.rv_many.specs.Column.{column}
use Rattle.rv_blif.proofs.logic.picked.Given as goal

abbrev pub invariant-loop-output : goal.invariant-loop-output
invariant-loop-output l = (j : ℕ) → column l.picked.items j ≡ map (λ output. bit_of (column l.rows j) output.signal) (take l.output-index l.outputs)
