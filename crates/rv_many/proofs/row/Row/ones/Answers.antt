use Rattle.std.proofs.Common.{◌∙◌, ◌-◌, ◌%◌, ◌^◌, arith}
use Rattle.rv_many.proofs.Rows.{bit_of_parts, has-ones}
use Rattle.rv_many.proofs.row.Row.ones.Goals as goal

pub returns : goal.returns
returns c j lt = bit_of_parts (λ k. 2 ^ 64 - 1) j (omega arith) ∙ has-ones (j % 64) (omega arith)
