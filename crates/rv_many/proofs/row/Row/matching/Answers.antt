use Rattle.std.proofs.Common.{◌∙◌, ◌/◌, ◌%◌, get_or, ap, arith}
use Rattle.std.specs.Prelude.{bit_xor}
use Rattle.rv_gate.specs.Gate.{xor}
use Rattle.rv_gate.specs.Word.{has}
use Rattle.rv_gate.proofs.LineSets.{has-xor}
use Rattle.rv_many.proofs.Rows.{bit_of_parts, same_other}
use Rattle.rv_many.proofs.row.Row.matching.Goals as goal

pub returns : goal.returns
returns c j lt =
    let parts = c.args.self.parts in
    bit_of_parts (λ k. bit_xor (get_or parts k 0) c.others-other.result) j (omega arith)
    ∙ has-xor (get_or parts (j / 64) 0) c.others-other.result (j % 64)
    ∙ ap (xor (has (get_or parts (j / 64) 0) (j % 64))) (c.others-other.ensures (j % 64) (omega arith))
    ∙ same_other _ c.args.bit
