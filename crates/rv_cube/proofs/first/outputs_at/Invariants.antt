use Rattle.std.proofs.Common.{◌≡◌}
use Rattle.rv_gate.specs.Word.{word_of}
use Rattle.rv_gate.specs.Word.{ones_of}
use Rattle.rv_pla.specs.Zeros.{bit_for}
use Rattle.rv_cube.proofs.inside.Entries.{front_of}
use Rattle.rv_cube.proofs.first.outputs_at.Given as goal

abbrev pub invariant-loop-output : goal.invariant-loop-output
invariant-loop-output l = l.outs ≡ ones_of (front_of bit_for l.pla (word_of l.pla.inputs l.input) l.output)
