use Rattle.std.proofs.Common.{◌≤◌, length, nat_eq}
use Rattle.rv_blif.specs.Row.{is_bit}
use Rattle.rv_blif.proofs.RowLaws.{AreFrom}
use Rattle.rv_blif.proofs.row.product_of.Given as goal

abbrev pub invariant-loop-i : goal.invariant-loop-i
invariant-loop-i l = record {
  at : l.i ≤ length l.part;
  care : AreFrom is_bit l.part l.i l.care;
  want : AreFrom (λ c. nat_eq c 49) l.part l.i l.want;
}

abbrev pub decreases-loop-i : goal.decreases-loop-i
decreases-loop-i l = l.i
