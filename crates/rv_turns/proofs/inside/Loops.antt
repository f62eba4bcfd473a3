-- What loops over lines have done.
use Rattle.std.proofs.Common.{◌≡◌, ◌≢◌, ℕ, ◌<◌, ◌≤◌, true, false, List, length, get_or}
use Rattle.rv_gate.specs.Word.{has}
use Rattle.rv_turns.specs.inside.Slots.{Slots}
use Rattle.rv_turns.specs.inside.Without.{without}

-- one bit is cleared on the lines below
pub record IsCleared (old now : List ℕ) (to bit : ℕ) : Type 0 where
  pub count : length now ≡ length old
  pub done : (k : ℕ) → k < to → k < length old → get_or now k 0 ≡ without (get_or old k 0) bit
  pub left : (k : ℕ) → to ≤ k → get_or now k 0 ≡ get_or old k 0

-- the slots that are left have no more than Z on a line, of what is on the lines below
pub record AreAlone (s : Slots) (line to slots left : ℕ) : Type 0 where
  pub among : (i : ℕ) → has left i ≡ true → has slots i ≡ true
  pub quarter : (i : ℕ) → has left i ≡ true → has s.quarters i ≡ false
  pub half : (i : ℕ) → has left i ≡ true → has s.halves i ≡ false
  pub flips : (i : ℕ) → has left i ≡ true → (k : ℕ) → k < to → has (get_or s.flips k 0) i ≡ false
  pub signs : (i : ℕ) → has left i ≡ true → (k : ℕ) → k < to → k ≢ line → has (get_or s.signs k 0) i ≡ false
