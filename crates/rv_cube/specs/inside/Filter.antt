-- A filter: how many inputs of each place lead to a slot, where these are none or one.
use Rattle.std.specs.Prelude.{◌≡◌, ◌==◌, ℕ, ◌*◌, ◌%◌, List, slice_index, Option, None, Some, bit_xor, if◌then◌else◌}

-- what the ones add to a place, spread over 19 bits
abbrev pub ones_place : ℕ → ℕ
ones_place want = bit_xor (want * 8) (want * 128 % 524288)

-- the place of a cube's inputs, which is linear: an exclusive or of inputs is one of their places
unfoldable pub filter_place : ℕ × ℕ → ℕ
filter_place key = bit_xor key.0 (ones_place key.1)

abbrev pub count_at : List ℕ → ℕ → ℕ
count_at counts place = slice_index counts place

-- counts end with 2, which stands for any number
abbrev pub one_more : ℕ → ℕ
one_more count = if count == 0 then 1 else 2

abbrev pub one_less : ℕ → ℕ
one_less count = if count == 1 then 0 else count

-- where 0 is counted no inputs lead to a slot, and where 1 is no two do
pub record IsFiltered (counts : List ℕ) (find : ℕ × ℕ → Option ℕ) : Type 0 where
  pub none : (key : ℕ × ℕ) → count_at counts (filter_place key) ≡ 0 → find key ≡ None
  pub one : (key other : ℕ × ℕ) (i j : ℕ) → filter_place key ≡ filter_place other
      → count_at counts (filter_place key) ≡ 1
      → find key ≡ Some i → find other ≡ Some j → key ≡ other
