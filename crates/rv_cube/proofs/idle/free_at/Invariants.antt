use Rattle.std.proofs.Common.{◌≡◌}
use Rattle.rv_gate.specs.Word.{ones_of, word_of}
use Rattle.rv_pla.specs.FreeEntries.{is_dont_care}
use Rattle.rv_cube.proofs.inside.Entries.{front_of}
use Rattle.rv_cube.proofs.idle.free_at.Given as goal

abbrev pub invariant-loop-output : goal.invariant-loop-output
invariant-loop-output l = l.outs ≡ ones_of (front_of is_dont_care l.pla (word_of l.pla.inputs l.input) l.output)
