use Rattle.std.proofs.Common.{ℕ, ◌<◌, Decides}
use Rattle.rv_many.specs.Column.{row_bit}
use Rattle.rv_compare.proofs.inside.Rows.{AgreeTo}
use Rattle.rv_compare.proofs.block.agreement.Given as goal

abbrev pub invariant-loop-line : goal.invariant-loop-line
invariant-loop-line l = (j : ℕ) → j < 256 → Decides (row_bit l.same j) (AgreeTo l.a l.b l.line j)
