use Rattle.std.proofs.Common.{◌∙◌, ◌/◌, ◌%◌, get_or, arith}
use Rattle.std.specs.Prelude.{bit_xor}
use Rattle.rv_gate.proofs.LineSets.{has-xor}
use Rattle.rv_many.proofs.Rows.{bit_of_parts}
use Rattle.rv_many.proofs.row.Row.xor.Goals as goal

pub returns : goal.returns
returns c j lt =
    bit_of_parts (λ k. bit_xor (get_or c.args.self.parts k 0) (get_or c.args.other.parts k 0)) j (omega arith)
    ∙ has-xor (get_or c.args.self.parts (j / 64) 0) (get_or c.args.other.parts (j / 64) 0) (j % 64)
