use Rattle.std.proofs.Common.{ℕ, ◌≡◌, ◌<◌, true}
use Rattle.rv_many.specs.Column.{row_bit}
use Rattle.rv_compare.proofs.block.first_zero.Given as goal

abbrev pub invariant-loop-place : goal.invariant-loop-place
invariant-loop-place l = (k : ℕ) → k < l.place → row_bit l.row k ≡ true
