use Rattle.std.proofs.Common.{◌≡◌, ℕ, ◌<◌, not, take}
use Rattle.rv_many.specs.Column.{column, row_bit}
use Rattle.rv_blif.specs.Logic.{any_holds}
use Rattle.rv_blif.proofs.evaluate.none_holds.Given as goal

abbrev pub invariant-loop-product : goal.invariant-loop-product
invariant-loop-product l = (j : ℕ) → j < 256 → row_bit l.none j ≡ not (any_holds (take l.product-index l.products) (column l.rows j))
