use Rattle.std.proofs.Common.{◌∙◌, ◌/◌, ◌%◌, get_or, arith}
use Rattle.std.specs.Prelude.{bit_and}
use Rattle.rv_gate.proofs.LineSets.{has-and}
use Rattle.rv_many.proofs.Rows.{bit_of_parts}
use Rattle.rv_many.proofs.row.Row.and.Goals as goal

pub returns : goal.returns
returns c j lt =
    bit_of_parts (λ k. bit_and (get_or c.args.self.parts k 0) (get_or c.args.other.parts k 0)) j (omega arith)
    ∙ has-and (get_or c.args.self.parts (j / 64) 0) (get_or c.args.other.parts (j / 64) 0) (j % 64)
