use Rattle.std.proofs.Common.{◌≡◌, ℕ, ◌<◌}
use Rattle.rv_gate.specs.Gate.{all_below}
use Rattle.rv_many.specs.Column.{column, row_bit}
use Rattle.rv_blif.proofs.NodeLaws.{literal}
use Rattle.rv_blif.proofs.evaluate.product_row.Given as goal

abbrev pub invariant-loop-i : goal.invariant-loop-i
invariant-loop-i l = (j : ℕ) → j < 256 → row_bit l.on j ≡ all_below (literal l.product.care l.product.want (column l.rows j)) l.i
