-- The end of a text.
use Rattle.std.proofs.Common.{◌≡◌, ℕ, ◌^◌, List, length, Option, Some, Ok, arith}
use Rattle.std.specs.Prelude.{IfSome}
use Rattle.std.specs.Option.{option_map}
use Rattle.std.proofs.Math.Nat.{pow-le-pow_right}
use Rattle.rv_perm.specs.declared.line.Row.{Row as Kept}
use Rattle.rv_perm.specs.declared.perm.TheConstants.{MOST_PERM_LINES}
use Rattle.rv_perm.specs.Perm.{Table, lines_for, images_checked}
use Rattle.rv_perm.specs.inside.State.{Given, row_kept, IsGiven}
use Rattle.rv_perm.specs.inside.Steps.{row_checked}
use Rattle.rv_perm.proofs.inside.Tables.{lines_for-some}

-- a row that passes has a mark for each line
pub row_fits : {M : Type 0} (lines : ℕ) (row : Option (Kept M)) → row_checked lines (option_map row_kept row) ≡ Ok tt → IfSome row (λ r. length r.marks.items ≡ lines)
row_fits lines row h = grind arith

-- the table that is checked has so many lines
pub images_checked-lines : (n : ℕ) (numbers : List ℕ) (table : Table) → images_checked n numbers ≡ Ok table → table.lines ≡ n
unfolding images_checked
images_checked-lines n numbers table h = grind arith

-- so many numbers are all kept
pub kept_all : (given : Given) (lines : ℕ) → IsGiven given → lines_for given.count ≡ Some lines → length given.numbers ≡ 2 ^ lines
kept_all given lines is some = grind (arith, lines_for-some, MOST_PERM_LINES, pow-le-pow_right)
