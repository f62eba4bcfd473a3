-- Rows that are due.
use Rattle.std.specs.Prelude.{ℕ, ◌<◌, ◌≤◌, ◌≡◌, Bool, true, false, List, length, count_by}
use Rattle.rv_cube.specs.inside.Slots.{is_due}

-- no row before `least` is due
pub record NoneBefore (rows : List Bool) (least : ℕ) : Type 0 where
  pub within : least ≤ length rows
  pub none : (a : ℕ) → a < least → is_due rows a ≡ false

-- nor one from `end` on; and where `fresh`, all rows are
pub record IsDue (rows : List Bool) (least end : ℕ) (fresh : Bool) : Type 0 where
  pub before : NoneBefore rows least
  pub end_within : end ≤ length rows
  pub after : (a : ℕ) → end ≤ a → is_due rows a ≡ false
  pub all : fresh ≡ true → (a : ℕ) → a < length rows → is_due rows a ≡ true

-- how many rows are due
unfoldable pub due_count : List Bool → ℕ
due_count rows = count_by (λ row. row) rows
