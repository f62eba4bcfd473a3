-- The entries of an input word as sets of outputs, and where a search among the words that agree stands.
use Rattle.std.specs.Prelude.{ℕ, zero, suc, ◌+◌, ◌*◌, ◌^◌, ◌<◌, ◌≤◌, ◌≡◌, ◌==◌, ◌&&◌, Bool, true, not, if◌then◌else◌, bit_and, List, map, slice_index, All}
use Rattle.std.specs.List.{count_by, range_with_len}
use Rattle.rv_pla.specs.Pla.{TwoLevel}
use Rattle.rv_pla.specs.Zeros.{bit_for}
use Rattle.rv_pla.specs.FreeEntries.{is_dont_care}
use Rattle.rv_pla.specs.declared.entry.Entry.{Entry}
use Rattle.rv_embed.specs.Filled.{is_open, own_word, row}
use Rattle.rv_embed.specs.declared.row.Row.{Row}
use Rattle.rv_embed.specs.declared.least_used.Cursor.{Cursor}
use Rattle.rv_embed.specs.declared.cursors.Slot.{Slot}

-- the number whose bits are told by the first n entries, the first one as its most significant bit
unfoldable pub bits_by : (Entry → Bool) → (ℕ → Entry) → ℕ → ℕ
bits_by p entries zero = 0
bits_by p entries (suc n) = bits_by p entries n * 2 + (if p (entries n) then 1 else 0)

abbrev pub is_set : Entry → Bool
is_set e = not (is_dont_care e)

-- the outputs whose entries aren't free, those that are 1, and those that are free
abbrev pub entries_row : (ℕ → Entry) → ℕ → Row
entries_row entries n =
    record { care = bits_by is_set entries n; want = bits_by bit_for entries n; free = bits_by is_dont_care entries n }

-- the row is that of some entries
abbrev pub IsRow : ℕ → Row → Type 0
IsRow n r = (entries : ℕ → Entry) × (r ≡ entries_row entries n)

-- a word has the bits that the row wants
abbrev pub fits : ℕ → ℕ → ℕ → Bool
fits care want y = bit_and y care == want

-- the number y below n fits, none has a lesser count, and none before it has the same
pub record IsLeastUsed (passes : ℕ → Bool) (count : ℕ → ℕ) (n y : ℕ) : Type 0 where
  pub within : y < n
  pub passed : passes y ≡ true
  pub least : (z : ℕ) → z < n → passes z ≡ true → count y ≤ count z
  pub first : (z : ℕ) → z < y → passes z ≡ true → count y < count z

-- no word that fits is used less often than the level, and those before the cursor's word more often
pub record IsCursor (care want n : ℕ) (counts : List ℕ) (c : Cursor) : Type 0 where
  pub within : c.word < n
  pub passed : fits care want c.word ≡ true
  pub level : (z : ℕ) → z < n → fits care want z ≡ true → c.level ≤ slice_index counts z
  pub before : (z : ℕ) → z < c.word → fits care want z ≡ true → c.level < slice_index counts z

-- how many of the first n input words have no free entry, and the output word y
unfoldable pub known_before : TwoLevel → ℕ → ℕ → ℕ
known_before pla n y = count_by (λ x. not (is_open pla x) && (own_word pla x == y)) (range_with_len 0 n)

-- ---- rows and cursors that are kept

-- the rows of all input words
abbrev pub rows_of : TwoLevel → List Row
rows_of pla = map (λ x. entries_row (row pla x) pla.outputs) (range_with_len 0 (2 ^ pla.inputs))

-- each slot has a cursor that stands rightly among the words that fit its row
abbrev pub AreCursors : ℕ → List ℕ → List Slot → Type 0
AreCursors n counts slots = All (λ (s : Slot). IsCursor s.care s.want (2 ^ n) counts s.cursor) slots
